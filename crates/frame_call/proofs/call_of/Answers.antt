-- Either pair of rooms holds what is taken: the small one by the tests, the large one for hulls of any size.
use mathlib.Core.Path.{sym, ◌∙◌}
use borrow.Author.Tests.{leb-true}
use Rattle.hull_links.specs.Links.{number_count}
use Rattle.frame_call.proofs.Calls.{room_holds}
use Rattle.frame_call.proofs.call_of.Goals as goal

pub call_in-requires : goal.call_in-requires
call_in-requires c =
    let small_a = leb-true (number_count c.args.size_a) 256 (sym c.fits_small.ensures ∙ c.if-fits_small.true) in
    let small_b = leb-true (number_count c.args.size_b) 256 (sym c.fits_small-then-fits_small.ensures ∙ c.if-fits_small-2.true) in
    (c.requires, room_holds _ _ _ (λ most. small_a), room_holds _ _ _ (λ most. small_b))

pub call_in-requires-2 : goal.call_in-requires-2
call_in-requires-2 c = (c.requires, room_holds _ _ _ (λ most. most), room_holds _ _ _ (λ most. most))
