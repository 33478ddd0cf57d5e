-- Six words, each below 2^32.
use Rattle.pools.proofs.Laws.{words_read}
use borrow.Author.Rules.{rules}
use Rattle.pools.proofs.Pools.place_of.Goals as goal

pub returns : goal.returns
returns c = words_read _ _ _ c.from_word.ensures.0 c.from_word-2.ensures.0 c.from_word-3.ensures.0 c.from_word-4.ensures.0 c.from_word-5.ensures.0
    c.from_word-6.ensures.0 (search rules)
