use Rattle.std.proofs.Common.{◌≡◌, drop}
use Rattle.std.specs.Prelude.{map}
use Rattle.session_model.specs.Session.{pin_named}
use Rattle.session.specs.Kept.{kept_pin}
use Rattle.session.proofs.kept.find_pin.Given as goal

-- the name is none of those so far
abbrev pub invariant-loop-kept : goal.invariant-loop-kept
invariant-loop-kept l =
    pin_named l.name (map kept_pin l.pins) ≡ pin_named l.name (map kept_pin (drop l.kept-index l.pins))
