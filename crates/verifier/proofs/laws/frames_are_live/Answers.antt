use Rattle.verifier.proofs.LiveFrames.{frames_are_live as frames_are_live_lem}
use Rattle.verifier.proofs.laws.frames_are_live.Goals as goal

pub returns : goal.returns
returns c = frames_are_live_lem
