use Rattle.std.proofs.Common.{◌≡◌, ◌/◌, ◌∙◌, length, replicate, ap, sym}
use Rattle.bpf_image.specs.Program.{units}
use Rattle.verifier.proofs.OneFunction.{ends_of}
use Rattle.verifier.proofs.functions.ends_of_one.Goals as goal

pub returns : goal.returns
returns c =
    let same : units c.args.image.now ≡ length c.code.result.now / 8 = ap (λ xs. length xs / 8) (sym c.code.ensures.exact) in
    ends_of c.args.image.now c.in_ok-vec.field-0.items c.requires (c.in_ok-vec.ensures.items_if_clones_equal (λ y is. is) ∙ ap (λ n. replicate n n) (sym same))
