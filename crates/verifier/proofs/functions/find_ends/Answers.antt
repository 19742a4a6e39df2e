use Rattle.std.proofs.Common.{◌≡◌, ℕ, ◌+◌, ◌-◌, ◌/◌, ◌<◌, true, false, cond, length, ap, sym, ◌∙◌, refl, arith}
use Rattle.std.proofs.lemmas.List.{length-set, get_or_read_under}
use Rattle.bpf_image.specs.Program.{units}
use Rattle.verifier.specs.Functions.{is_entry, entry_from}
use Rattle.verifier.proofs.EntryTable.{more_ends, next_entry}
use Rattle.verifier.proofs.functions.find_ends.Goals.{then-index, else-index}
use Rattle.verifier.proofs.functions.find_ends.Goals as goal

pub loop-behind-preserved : goal.loop-behind-preserved
loop-behind-preserved c =
    let p = c.args.image.now in
    let n = c.loop-behind.behind in
    let pc : ℕ = length c.code.result.now / 8 - 1 - c.loop-behind.behind in
    let inv = c.loop-behind.invariant in
    let same : units c.args.image.now ≡ length c.code.result.now / 8 = ap (λ xs. length xs / 8) (sym c.code.ensures.exact) in
    let all : (length c.code.result.now / 8 - 1 - c.loop-behind.behind) + (c.loop-behind.behind + 1) ≡ units c.args.image.now = omega (arith, same, c.loop-behind-test.true) in
    let lt : (length c.code.result.now / 8 - 1 - c.loop-behind.behind) < units c.args.image.now = omega (arith, all) in
    let here : c.index.result.now ≡ is_entry c.args.image.now (length c.code.result.now / 8 - 1 - c.loop-behind.behind) =
    get_or_read_under c.in_ok-entries.entries.items pc (units c.args.image.now) c.index.result.now false c.index.ensures lt (sym c.in_ok-entries.ensures.0) ∙ c.in_ok-entries.ensures.1 pc lt in
    let behind : units c.args.image.now - c.loop-behind.behind ≡ (length c.code.result.now / 8 - 1 - c.loop-behind.behind) + 1 = omega (arith, all) in
    let next : c.loop-behind.next ≡ entry_from c.args.image.now c.loop-behind.behind ((length c.code.result.now / 8 - 1 - c.loop-behind.behind) + 1) = inv.1 ∙ ap (entry_from c.args.image.now c.loop-behind.behind) behind in
    let chosen : c.if-index.next ≡ cond c.index.result.now pc c.loop-behind.next = (elim c.if-index.branch [
      | then-index w ↦ (let test : c.index.result.now ≡ true = w.if-index.true in w.next-is ∙ rw test refl)
      | else-index w ↦ (let test : c.index.result.now ≡ false = w.if-index.false in w.next-is ∙ rw test refl)
    ]) in
    let place : (length c.code.result.now / 8 - 1 - c.loop-behind.behind) ≡ units c.args.image.now - (c.loop-behind.behind + 1) = omega (arith, all) in (
      length-set c.loop-behind.ends.items pc c.loop-behind.next ∙ inv.0,
      chosen ∙ next_entry p n pc c.loop-behind.next c.index.result.now next here ∙ ap (entry_from p (n + 1)) place,
      more_ends p n pc c.loop-behind.next c.loop-behind.ends.items all inv.0 next inv.2,
    )
