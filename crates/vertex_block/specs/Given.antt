-- A block's words determine its places.
use Rattle.std.proofs.Common.{◌≡◌, ℕ, ◌-◌, List, ◌++◌, length, take, replicate, sym, ap, ap₂, ◌∙◌, arith}
use Rattle.std.proofs.lemmas.List.{length-take, take-append-drop}
use Rattle.vertex_block.specs.declared.block.TheConstants.{PLACES}
use Rattle.vertex_block.specs.declared.block.VertexBlock.TheInside.{Inside}
use Rattle.vertex_block.specs.Block.{IsBlock}

abbrev pub block_of : List ℕ → ℕ → Inside
block_of places len = record { places = places; len = len }

pub places_told : (b : Inside) → IsBlock b.len b.places → block_of (take b.len b.places ++ replicate (PLACES - length (take b.len b.places)) 0) (length (take b.len b.places)) ≡ b
places_told b is =
    let most = is.most in
    let all = is.all in
    let long : length (take b.len b.places) ≡ b.len = omega (arith, length-take b.len b.places) in
    ap₂ block_of (ap (λ n. take b.len b.places ++ replicate (PLACES - n) 0) long ∙ ap (λ l. take b.len b.places ++ l) (sym is.spare) ∙ take-append-drop b.len b.places) long
