use Rattle.verifier.proofs.LiveFrames.{frames_are_described as frames_are_described_lem}
use Rattle.verifier.proofs.laws.frames_are_described.Goals as goal

pub returns : goal.returns
returns c = frames_are_described_lem
