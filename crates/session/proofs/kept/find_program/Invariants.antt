use Rattle.std.proofs.Common.{◌≡◌, drop}
use Rattle.std.specs.Prelude.{map}
use Rattle.session_model.specs.Session.{program_named}
use Rattle.session.specs.Kept.{kept_program}
use Rattle.session.proofs.kept.find_program.Given as goal

-- the name is none of those so far
abbrev pub invariant-loop-kept : goal.invariant-loop-kept
invariant-loop-kept l =
    program_named l.name (map kept_program l.programs) ≡ program_named l.name (map kept_program (drop l.kept-index l.programs))
