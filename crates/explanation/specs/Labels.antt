-- The parts of a text that are always the same.
use Rattle.std.specs.Prelude.{ℕ, List, codes}
use Rattle.explanation.specs.declared.labels.Label.{Label}
use Rattle.explanation.specs.declared.labels.Label.TheVariants as labels

unfoldable pub label_text : Label → List ℕ
label_text labels.Program = codes "program of "
label_text labels.Records = codes " units, records of "
label_text labels.Bytes = codes " bytes\n"
label_text labels.Accepted = codes "accepted, bound "
label_text labels.Frames = codes ", frames "
label_text labels.Help = codes "what helps: "
label_text labels.Frame = codes "known of frame "
label_text labels.NoByte = codes " no byte is set"
label_text labels.Called = codes "called at "
