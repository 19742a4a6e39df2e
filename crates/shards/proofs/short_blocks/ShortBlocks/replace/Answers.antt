use Rattle.std.proofs.Common.{◌-◌, ◌++◌, length, get_or, take, drop, ap, ◌∙◌, arith}
use Rattle.shards.proofs.SplicedLemmas.{set_replaced, gone_fits, come_fits}
use Rattle.shards.proofs.short_blocks.ShortBlocks.replace.Goals as goal

pub shift-requires-clause-gone : goal.shift-requires-clause-gone
shift-requires-clause-gone c = λ k low high. gone_fits c.args.self.now c.args.number k (length c.words-gone.result.now) c.requires.packed low high (ap length c.words-gone.ensures.words)

pub shift-requires-clause-come : goal.shift-requires-clause-come
shift-requires-clause-come c = λ k low high. come_fits c.args.self.now k (length c.args.words.now) c.requires.packed (omega (arith, c.deref.ensures.1, ap length c.deref.ensures.0)) high c.requires.short

pub returns : goal.returns
returns c = set_replaced c.args.self.now _ c.args.number (length c.words-gone.result.now) c.from-end.result c.args.words.now c.requires.packed c.requires.inside c.requires.set c.requires.short (ap length c.words-gone.ensures.words) (c.from-end.ensures ∙ ap (λ l. get_or l c.args.number 0) c.deref.ensures.0)
    (c.in_ok-self.ensures ∙ ap (λ l. take (c.from-end.result - length c.words-gone.result.now) l ++ (c.args.words.now ++ drop c.from-end.result l)) c.deref-2.ensures.value) c.shift.ensures
