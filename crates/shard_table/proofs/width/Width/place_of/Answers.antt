use Rattle.std.proofs.Common.{◌≡◌, ◌-◌, ◌%◌, bit_and, sym, subst}
use Rattle.std.proofs.lemmas.Nat.{and_mask}
use Rattle.shard_table.proofs.width.Width.place_of.Goals as goal

pub returns : goal.returns
returns c =
    subst (λ w. bit_and c.args.range (w - 1) ≡ c.args.range % w) (sym c.args.self.is) (and_mask c.args.range c.args.self.power)
