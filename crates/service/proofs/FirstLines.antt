-- What comes of executing the first line of some bytes.
use Rattle.std.proofs.Common.{◌≡◌, ℕ, ◌+◌, ◌-◌, List, ◌++◌, length, take, drop, Ok, ap, subst, arith, length-drop}
use Rattle.std.proofs.lemmas.List.{take_all}
use Rattle.std.specs.List.{flat_map}
use Rattle.map_model.specs.declared.listed_edge.ListedEdge.{ListedEdge}
use Rattle.script_model.specs.State.{Script}
use Rattle.script_model.specs.Texts.{edge_text, fault_text}
use Rattle.script.specs.declared.script.Step.TheVariants as steps
use Rattle.script.specs.Executes.{Steps}
use Rattle.service.specs.Served.{Served, Serving, Listing, Settling, IsLine}
use Rattle.service.proofs.Following.{served_step, served_fault}

-- what a slice from a place on has
pub slice_from : (bytes : List ℕ) (from : ℕ) → take (length bytes - from) (drop from bytes) ≡ drop from bytes
slice_from bytes from = take_all _ _ (omega (arith, length-drop from bytes))

-- the first line of it
pub found_at : (bytes : List ℕ) (from k : ℕ) → IsLine (take (length bytes - from) (drop from bytes)) k → IsLine (drop from bytes) k
found_at bytes from k found =
    subst (λ (l : List ℕ). IsLine l k) (slice_from bytes from) found

pub line_at : (bytes : List ℕ) (from k : ℕ) → take (from + k - from) (drop from bytes) ≡ take k (drop from bytes)
line_at bytes from k = ap (λ (n : ℕ). take n (drop from bytes)) (omega arith)

pub executed_line : (bytes line : List ℕ) (k : ℕ) (old new : Script) (text said : List ℕ) → IsLine bytes k → line ≡ take k bytes → Steps (Ok steps.Executed) line old new text said → Serving old new bytes (drop (k + 1) bytes) text said
executed_line bytes line k old new text said found is done read before h =
    let here = (rw is at done) in
    let first = subst (λ (b : List ℕ). Served read before old b) found.1 h in
    (here.0, here.2, served_step read before (take k bytes) (drop (k + 1) bytes) old here.0 here.1 new first found.0 here.3 here.4)

pub listed_line : (bytes line : List ℕ) (k : ℕ) (old new : Script) (text said : List ℕ) (edges : List ListedEdge) → IsLine bytes k → line ≡ take k bytes → Steps (Ok (steps.Lists edges)) line old new text said → Listing old new bytes (drop (k + 1) bytes) text said edges
listed_line bytes line k old new text said edges found is done read before h =
    let here = (rw is at done) in
    let first = subst (λ (b : List ℕ). Served read before old b) found.1 h in
    (here.0, here.2, served_step read before (take k bytes) (drop (k + 1) bytes) old (here.0 ++ flat_map edge_text edges) here.1 new first found.0 here.3 here.4)

pub stopped_line : (bytes line : List ℕ) (k : ℕ) (old new : Script) (text said : List ℕ) → IsLine bytes k → line ≡ take k bytes → Steps (Ok steps.Stopped) line old new text said → Settling old bytes text said
stopped_line bytes line k old new text said found is done read before h =
    let here = (rw is at done) in
    let first = subst (λ (b : List ℕ). Served read before old b) found.1 h in
    (fault_text here.0 old.line, here.1, served_fault read before (take k bytes) (drop (k + 1) bytes) old here.0 first found.0 here.2)
