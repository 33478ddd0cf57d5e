-- Both sides of each limit of document 01's square root and "The hex program", one row each. Assumes nothing.
use mathlib.Core.Path.{◌≡◌, refl}
use mathlib.Core.List.{List, [], ◌∷◌}
use Prim.Native.Nat.{ℕ}
use lib.IntN.{ℤ, pos, negsuc}
use lib.ListN.{length, take, drop, set, replicate}
use lib.Ieee.{to_bits}
use lib.Ieee as Ieee
use Rattle.root.specs.Root.{isqrt, pattern, root_of}
use Rattle.units.specs.Units.{known_unit}
use Rattle.vector.specs.Rounded.{float}
use Rattle.vector.specs.Arithmetic.{zero_vec}
use Rattle.manifold.specs.declared.Point.{Point}
use Rattle.manifold.specs.declared.Contact.{Contact}
use Rattle.manifold.specs.declared.SatCache.{SatCache}
use Rattle.manifold.specs.Records.{zero_pair, empty_contact}
use Rattle.manifold.specs.Pairs.{flip_of}
use Rattle.hull_links.specs.declared.HullSize.{HullSize}
use Rattle.hull_links.specs.Tests.{◌&◌, ◌or◌, all, first_broken}
use Rattle.hull_links.specs.Rules.{h1}
use Rattle.hull.specs.Rule8.{broken_rule}
use Rattle.collide_outcome.specs.Answers.{accepted}
use Rattle.collide_refusals.specs.Refusals.{refusal_of}
use Rattle.collide.specs.Call.{collide_of}
use Rattle.frame_encode.specs.Bytes.{float_bytes, cache_bytes, answer_bytes}
use Rattle.lists.specs.Written as Written
use Rattle.frame_decode.specs.Fields.{signed, size_at}
use Rattle.frame_decode.specs.Hulls.{links_from, hull_length, numbers_of, links_of, numbers_taken}
use Rattle.frame_hex.specs.Hex.{hex_digit, digit_value_of, digit_of, hex_at, hex_line, byte_of, hex_of}
use Rattle.frame_call.specs.Requests.{call_of}
use Rattle.frame.specs.Frames.{root_answer, flipped_answer, flip_answer, call_answer, frame_answer}
use Rattle.frame.specs.Lines.{answered_of, line_answer}
use Rattle.stream.specs.Told.{told, told_last}
use Rattle.computed.proofs.Rows.{Row, row, is, yes, no, given, said, bits, sizes, sizes_at}

-- the bits of the root of the number with these bits
abbrev root : ℕ → ℕ
root b = bits (root_of (float b))

-- a signed number: 0 and itself, or 1 and how far it is below -1
abbrev away : ℤ → List ℕ
away (pos n) = 0 ∷ n ∷ []
away (negsuc n) = 1 ∷ n ∷ []

-- a cache of any bits
abbrev cache : SatCache
cache = record { separation = 0x7f80_0001; kind = 255; index_a = 3; index_b = 4; hit = 1 }

-- four points of which only the candidates' places are not 0
abbrev point_at : ℕ → Point
point_at place = record { position = zero_vec; separation = float 0; pair = zero_pair; place = place }

abbrev placed_at : (a b c d : ℕ) → Contact
placed_at a b c d = record { points = point_at a ∷ point_at b ∷ point_at c ∷ point_at d ∷ []; normal = zero_vec; count = 4 }

-- the bytes of an answer behind its points, with a mark of 7
abbrev behind_points : Contact → List ℕ
behind_points contact = drop 103 (answer_bytes (accepted 7 contact cache))

-- a frame of kind 12 with this capacity and so many zeros behind it: 100 of them are a cache, a transform and two hulls of nothing
abbrev call : ℕ → ℕ → List ℕ
call capacity zeros = 0x12 ∷ 0 ∷ 0 ∷ 0 ∷ capacity ∷ replicate zeros 0

-- the length of what a frame is answered, and its first two bytes
abbrev answer : List ℕ → List ℕ
answer f = length (frame_answer f) ∷ take 2 (frame_answer f)

abbrev fault : ℕ → List ℕ
fault number = 2 ∷ 0xff ∷ number ∷ []

-- the four numbers that a hull begins with
abbrev header : HullSize → List ℕ
header s = s.unit ∷ s.vertices ∷ s.half_edges ∷ s.faces ∷ []

-- so many characters z
abbrev zs : ℕ → List ℕ
zs n = replicate n 122

abbrev table : List Row
table =
    -- "A NaN that the call works out and hands out becomes 7fc00000; a cache field that isn't rewritten keeps its bits, a NaN too."
    row (float_bytes (float 0x7f80_0001)) (0x7f ∷ 0xc0 ∷ 0 ∷ 0 ∷ []) ∷ row (float_bytes (float 0xffff_ffff)) (0x7f ∷ 0xc0 ∷ 0 ∷ 0 ∷ [])
    ∷ row (float_bytes (float 0x7f80_0000)) (0x7f ∷ 0x80 ∷ 0 ∷ 0 ∷ []) ∷ row (cache_bytes cache) (0x7f ∷ 0x80 ∷ 0 ∷ 1 ∷ 255 ∷ 3 ∷ 4 ∷ 1 ∷ [])
    -- "Square root: for a finite positive number the nearest binary32": the least and the largest subnormal, the least normal, about 1, the largest number
    ∷ is (root 0x0000_0001) 0x1a35_04f3 ∷ is (root 0x0000_0002) 0x1a80_0000 ∷ is (root 0x007f_ffff) 0x1fff_ffff ∷ is (root 0x0080_0000) 0x2000_0000
    ∷ is (root 0x3f7f_fffe) 0x3f7f_ffff ∷ is (root 0x3f7f_ffff) 0x3f7f_ffff ∷ is (root 0x3f80_0000) 0x3f80_0000
    ∷ is (root 0x3f80_0001) 0x3f80_0000 ∷ is (root 0x3f80_0002) 0x3f80_0001 ∷ is (root 0x3f80_0003) 0x3f80_0001 ∷ is (root 0x7f7f_ffff) 0x5f7f_ffff
    -- "Either zero gives itself; a number below zero and any NaN give 7fc00000; plus infinity gives itself."
    ∷ is (root 0) 0 ∷ is (root 0x8000_0000) 0x8000_0000
    ∷ is (root 0x8000_0001) 0x7fc0_0000 ∷ is (root 0xbf80_0000) 0x7fc0_0000 ∷ is (root 0xff7f_ffff) 0x7fc0_0000 ∷ is (root 0xff80_0000) 0x7fc0_0000
    ∷ is (root 0x7f80_0001) 0x7fc0_0000 ∷ is (root 0x7fc0_0000) 0x7fc0_0000 ∷ is (root 0xffff_ffff) 0x7fc0_0000
    ∷ is (root 0x7f80_0000) 0x7f80_0000
    -- "reads standard input, one frame a line of lowercase hexadecimal": 0 and 9, a and f, and their neighbours; A and F
    ∷ no (hex_digit 47) ∷ yes (hex_digit 48) ∷ yes (hex_digit 57) ∷ no (hex_digit 58) ∷ no (hex_digit 96) ∷ yes (hex_digit 97) ∷ yes (hex_digit 102)
    ∷ no (hex_digit 103)
    ∷ no (hex_digit 65) ∷ no (hex_digit 70)
    ∷ is (digit_value_of 48) 0 ∷ is (digit_value_of 57) 9 ∷ is (digit_value_of 97) 10 ∷ is (digit_value_of 102) 15
    ∷ is (digit_of 0) 48 ∷ is (digit_of 9) 57 ∷ is (digit_of 10) 97 ∷ is (digit_of 15) 102
    -- "(the last may lack its line end), and prints one line for each.": an empty line is one, the end of the input behind a line end is none
    ∷ row (told [] (10 ∷ [])) (102 ∷ 102 ∷ 50 ∷ 50 ∷ 10 ∷ []) ∷ row (told [] (122 ∷ [])) [] ∷ row (told_last (122 ∷ [])) (102 ∷ 102 ∷ 50 ∷ 49 ∷ 10 ∷ [])
    ∷ row (told_last []) []
    -- "10 + four bytes: root, answered 90 + four bytes."; "ff23 length"
    ∷ row (frame_answer (0x10 ∷ 0x40 ∷ 0x80 ∷ 0 ∷ 0 ∷ [])) (0x90 ∷ 0x40 ∷ 0 ∷ 0 ∷ 0 ∷ [])
    ∷ row (answer (0x10 ∷ 0x40 ∷ 0x80 ∷ 0 ∷ [])) (fault 0x23) ∷ row (answer (0x10 ∷ 0x40 ∷ 0x80 ∷ 0 ∷ 0 ∷ 0 ∷ [])) (fault 0x23)
    -- "11 + pair (owner1, index1, owner2, index2): flipped, answered 91 + pair."; "ff08 for refusal 8"
    ∷ row (frame_answer (0x11 ∷ 0 ∷ 3 ∷ 1 ∷ 9 ∷ [])) (0x91 ∷ 0 ∷ 9 ∷ 1 ∷ 3 ∷ [])
    ∷ row (answer (0x11 ∷ 0 ∷ 3 ∷ 1 ∷ [])) (fault 0x23) ∷ row (answer (0x11 ∷ 0 ∷ 3 ∷ 1 ∷ 9 ∷ 0 ∷ [])) (fault 0x23)
    ∷ row (answer (0x11 ∷ 0 ∷ 3 ∷ 2 ∷ 9 ∷ [])) (fault 0x08) ∷ row (answer (0x11 ∷ 2 ∷ 3 ∷ 0 ∷ 9 ∷ [])) (fault 0x08)
    -- "Answer: 92, status (a byte: 0 or the refusal), .. 103 bytes in all.", then the four places, and the mark, "a last byte in frame 92"; "length (a
    -- hull's by its V, H, F as sent)"
    ∷ is (length (answer_bytes (accepted 0 empty_contact cache))) 108
    ∷ row (behind_points empty_contact) (255 ∷ 255 ∷ 255 ∷ 255 ∷ 7 ∷ []) ∷ row (behind_points (placed_at 9 4 2 6)) (9 ∷ 4 ∷ 2 ∷ 6 ∷ 7 ∷ [])
    ∷ row (answer (call 3 100)) (108 ∷ 0x92 ∷ 0 ∷ []) ∷ row (answer (call 4 100)) (108 ∷ 0x92 ∷ 1 ∷ [])
    ∷ row (answer (call 3 99)) (fault 0x23) ∷ row (answer (call 3 101)) (fault 0x23)
    -- hull A of one vertex asks for 49 bytes more, of one half-edge for 4, of one face for 17; hull B likewise
    ∷ row (answer (set (call 3 100) 44 1)) (fault 0x23) ∷ row (answer (set (call 3 149) 44 1)) (108 ∷ 0x92 ∷ 0 ∷ [])
    ∷ row (answer (set (call 3 104) 46 1)) (108 ∷ 0x92 ∷ 0 ∷ []) ∷ row (answer (set (call 3 117) 48 1)) (108 ∷ 0x92 ∷ 0 ∷ [])
    ∷ row (answer (set (call 3 149) 76 1)) (108 ∷ 0x92 ∷ 0 ∷ []) ∷ row (answer (set (call 3 148) 76 1)) (fault 0x23)
    -- document 02, i: "Frames of kind 12 carry it as two bytes before each hull's V.": the high byte first, and whatever it is, the hull is as long
    ∷ row (header (size_at (0 ∷ 1 ∷ 0 ∷ 8 ∷ 0 ∷ 24 ∷ 0 ∷ 6 ∷ []) 0)) (1 ∷ 8 ∷ 24 ∷ 6 ∷ [])
    ∷ row (header (size_at (9 ∷ 3 ∷ 0xe8 ∷ 0 ∷ 65 ∷ 1 ∷ 0 ∷ 0 ∷ 65 ∷ []) 1)) (1000 ∷ 65 ∷ 256 ∷ 65 ∷ [])
    ∷ row (header (size_at (1 ∷ 0 ∷ 0 ∷ 4 ∷ 0 ∷ 12 ∷ 0 ∷ 5 ∷ []) 0)) (256 ∷ 4 ∷ 12 ∷ 5 ∷ [])
    ∷ row (header (size_at (0xff ∷ 0xff ∷ 0 ∷ 0 ∷ 0 ∷ 0 ∷ 0 ∷ 0 ∷ []) 0)) (65535 ∷ 0 ∷ 0 ∷ 0 ∷ [])
    ∷ is (hull_length (sizes 0 0 0)) 32 ∷ is (hull_length (sizes_at 0 0 0 0)) 32 ∷ is (hull_length (sizes 4 12 4)) 200 ∷ is (hull_length (sizes_at 10 8 24 6))
    334
    ∷ is (hull_length (sizes_at 1000 128 256 128)) 4896 ∷ is (hull_length (sizes_at 65535 128 256 128)) 4896
    ∷ is (links_from (sizes_at 100 0 0 0) 41) 73 ∷ is (links_from (sizes_at 100 5 0 0) 41) 169
    -- a unit of A and of B in a frame of kind 12 asks for no more bytes: its high byte and its low one
    ∷ row (answer (set (call 3 100) 41 1)) (108 ∷ 0x92 ∷ 0 ∷ []) ∷ row (answer (set (call 3 100) 42 1)) (108 ∷ 0x92 ∷ 0 ∷ [])
    ∷ row (answer (set (call 3 100) 73 1)) (108 ∷ 0x92 ∷ 0 ∷ []) ∷ row (answer (set (call 3 100) 74 1)) (108 ∷ 0x92 ∷ 0 ∷ [])
    -- "capacity is signed"
    ∷ row (away (signed 0x7fff_ffff)) (0 ∷ 0x7fff_ffff ∷ []) ∷ row (away (signed 0x8000_0000)) (1 ∷ 0x7fff_ffff ∷ [])
    ∷ row (away (signed 0xffff_ffff)) (1 ∷ 0 ∷ [])
    -- the largest hull has 902 numbers; of more none are taken
    ∷ is (length (numbers_taken [] 0 (sizes 128 256 128))) 902 ∷ is (length (numbers_taken [] 0 (sizes 128 256 129))) 0
    -- "Faults, in order: ff24 over 20,000 characters,"
    ∷ row (answered_of (zs 20000)) (0xff ∷ 0x21 ∷ []) ∷ row (answered_of (zs 20001)) (0xff ∷ 0x24 ∷ [])
    -- "ff21 not lowercase hex or odd,"
    ∷ row (answered_of (49 ∷ [])) (0xff ∷ 0x21 ∷ []) ∷ row (answered_of (49 ∷ 51 ∷ [])) (0xff ∷ 0x22 ∷ [])
    ∷ row (answered_of (49 ∷ 65 ∷ [])) (0xff ∷ 0x21 ∷ [])
    -- "ff22 no such kind (an empty line too),"
    ∷ row (answered_of []) (0xff ∷ 0x22 ∷ []) ∷ row (answer (0x0f ∷ [])) (fault 0x22) ∷ row (answer (0x10 ∷ [])) (fault 0x23)
    ∷ row (answer (0x11 ∷ [])) (fault 0x23) ∷ row (answer (0x12 ∷ [])) (fault 0x23) ∷ row (answer (0x13 ∷ [])) (fault 0x22)
    -- the whole case, as characters
    ∷ row (line_answer (49 ∷ 48 ∷ 52 ∷ 48 ∷ 56 ∷ 48 ∷ 48 ∷ 48 ∷ 48 ∷ 48 ∷ [])) (57 ∷ 48 ∷ 52 ∷ 48 ∷ 48 ∷ 48 ∷ 48 ∷ 48 ∷ 48 ∷ 48 ∷ [])
    ∷ row (line_answer (49 ∷ 49 ∷ 48 ∷ 48 ∷ 48 ∷ 51 ∷ 48 ∷ 49 ∷ 48 ∷ 57 ∷ [])) (57 ∷ 49 ∷ 48 ∷ 48 ∷ 48 ∷ 57 ∷ 48 ∷ 49 ∷ 48 ∷ 51 ∷ [])
    ∷ row (line_answer (49 ∷ 48 ∷ 52 ∷ 48 ∷ [])) (102 ∷ 102 ∷ 50 ∷ 51 ∷ []) ∷ row (line_answer (zs 2)) (102 ∷ 102 ∷ 50 ∷ 49 ∷ [])
    ∷ []

pub limits : given table ≡ said table
unfolding known_unit isqrt pattern root_of flip_of ◌&◌ ◌or◌ all first_broken h1 broken_rule refusal_of collide_of answer_bytes signed numbers_of links_of
    numbers_taken
    hex_digit digit_value_of digit_of hex_at hex_line byte_of hex_of call_of root_answer flipped_answer flip_answer call_answer frame_answer answered_of
    line_answer told
    told_last Ieee.size Ieee.of_bits to_bits Ieee.lt Ieee.le Ieee.neg Ieee.sub Ieee.div Ieee.add Ieee.mul Written.table
limits = refl
