-- What the tests of a map's arguments say.
use Rattle.std.proofs.Common.{◌≡◌, ℕ, List, Result, Ok, Err, IsErrAnd, true, false, sym, subst, arith}
use Rattle.bpf_image.specs.Program.{Program}
use Rattle.map_model.specs.declared.reduction.Reduction.{Reduction}
use Rattle.graph_model.specs.Graph.{Graph}
use Rattle.workers.specs.declared.work_error.WorkError.{WorkError}
use Rattle.workers.specs.declared.work_error.WorkError.TheVariants.{OutOfMemory, WorkerRefused}
use Rattle.edge_fold.specs.declared.outcome.MapOutcome.{MapOutcome}
use Rattle.edge_fold.specs.declared.rows.Rows.{Rows}
use Rattle.edge_map.specs.declared.errors.MapError.{MapError}
use Rattle.edge_map.specs.Maps.{IsAllowed, IsMapped}
use Rattle.edge_map.specs.Refused.{refused_as}

pub clash : false ≡ true → ⊥
clash e = let z : ◌≡◌ {A = ℕ} 0 1 = cc in omega arith

-- workers that gave no answer leave both tests passed
pub refused_mapped : (rows : Rows) (p : Program) (g : Graph) (r : Reduction) (argument frontier : List ℕ) (result : Result MapOutcome MapError) (refusal : WorkError)
    → IsAllowed p g argument frontier → IsErrAnd result (λ e. e ≡ refused_as refusal) → IsMapped rows p g r argument frontier result
refused_mapped rows p g r argument frontier (Ok out) refusal allowed is = absurd is
refused_mapped rows p g r argument frontier (Err e) OutOfMemory allowed is = subst (λ (k : MapError). IsMapped rows p g r argument frontier (Err k)) (sym is) allowed
refused_mapped rows p g r argument frontier (Err e) WorkerRefused allowed is = subst (λ (k : MapError). IsMapped rows p g r argument frontier (Err k)) (sym is) allowed
