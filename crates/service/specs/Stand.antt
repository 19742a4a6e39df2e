-- Where the service of a script stands.
use Rattle.std.specs.Prelude.{ℕ, List}
use Rattle.script_model.specs.State.{Script}

-- the script, the bytes that were read and are not executed, and the text that is not written
pub record Stand : Type 0 where
  pub script : Script
  pub pending : List ℕ
  pub text : List ℕ
