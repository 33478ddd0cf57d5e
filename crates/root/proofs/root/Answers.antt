-- `root::root` meets its contract: what each `return` gives back passes `is_root`, and `is_root_of` adds the other statement. Assumes nothing.
use mathlib.Core.Path.{◌≡◌, sym, subst}
use native.Mathlib.Omega.{arith}
use lib.Dec.{T}
use Rattle.root.specs.Root.{is_root, root_of}
use lib.Ieee.{Float, binary32, fits, to_bits, of_bits}
use lib.Ieee.Fits.{div-fits}
use lib.Ieee.Bits.{of_bits-to_bits, of_bits-fits}
use Rattle.root.proofs.Facts.{facts}
use Rattle.root.proofs.Values.{no_nan_bits, of_bits_lem}
use Rattle.root.proofs.Special.{above_no_nan, above_bits, infinite, zero_itself, no_root}
use Rattle.root.proofs.Worked.{is_root_of}
use Rattle.root.proofs.root.Goals as goal
use Rattle.root.proofs.root.Goals.{Start}

-- the format holds a parameter's value
held : (c : Start) → T (fits binary32 c.args.x)
held c = subst T (sym c.well_formed.0.1) tt

both : (c : Start) (r : Float) → T (fits binary32 r) → T (is_root c.args.x r) → record { nearest : T (is_root c.args.x r); worked : r ≡ root_of c.args.x }
both c r f t = record { nearest = t; worked = is_root_of c.args.x r (held c) f t }

pub float_to_bits-b : goal.float_to_bits-b
float_to_bits-b c = above_no_nan c.args.x c.if-x.true

pub returns-then-b-ge2139095040 : goal.returns-then-b-ge2139095040
returns-then-b-ge2139095040 c =
    let s = c.before.before in
    both s s.args.x (held s) (infinite s.args.x (held s) c.if-x.true (omega arith))

pub pattern_of_root-requires : goal.pattern_of_root-requires
pattern_of_root-requires c = (above_bits c.args.x (held c.before.before) c.if-x.true, omega arith)

pub float_from_bits-result : goal.float_from_bits-result
float_from_bits-result c = no_nan_bits c.pattern_of_root.result (facts _ _ _ c.pattern_of_root.ensures).hi

pub returns-then-x : goal.returns-then-x
returns-then-x c =
    let s = c.before.before.before in
    let x = s.args.x in
    let r = c.pattern_of_root.result in
    both s (of_bits binary32 r) (of_bits-fits binary32 r)
    (of_bits_lem x (to_bits binary32 x) r (of_bits-to_bits binary32 x (held s)) (above_bits x (held s) c.if-x.true) (omega arith)
    c.pattern_of_root.ensures)

pub returns-then-x-2 : goal.returns-then-x-2
returns-then-x-2 c =
    let s = c.before.before in
    both s _ (div-fits binary32 _ _) (no_root s.args.x c.if-x.false c.if-x-2.true)

pub returns : goal.returns
returns c =
    let s = c.before.before in
    both s s.args.x (held s) (zero_itself s.args.x c.if-x-2.false)
