-- Laws of epochs. Each is the contract of a public function.
use Rattle.std.specs.Prelude.{◌≡◌, ℕ}
use Rattle.past_model.specs.declared.entry.Entry.{Entry}
use Rattle.past_model.specs.Past.{Past, IsPast, graph_of, number_of, epoch_of, longer}
use Rattle.past_model.specs.Homes.{home_of}
use Rattle.past_model.specs.Epochs.{IsBefore, branched, rebased}

-- a rebase keeps the graph and every home, and leaves a past
pub record RebaseChangesNothing : Type 0 where
  pub graph : (p : Past) → IsPast p → graph_of (rebased p) ≡ graph_of p
  pub homes : (p : Past) (v : ℕ) → IsPast p → home_of (rebased p) v ≡ home_of p v
  pub past : (p : Past) → IsPast p → IsPast (rebased p)

-- a branch has the graph and every home, is a past, and begins anew
pub record BranchBeginsAnew : Type 0 where
  pub graph : (p : Past) → IsPast p → graph_of (branched p) ≡ graph_of p
  pub homes : (p : Past) (v : ℕ) → IsPast p → home_of (branched p) v ≡ home_of p v
  pub past : (p : Past) → IsPast p → IsPast (branched p)
  pub epoch : (p : Past) → epoch_of (branched p) ≡ 0
  pub number : (p : Past) → number_of (branched p) ≡ 0

-- `IsBefore` is an order, and pasts that are before each other are one
pub record PastsAreInOrder : Type 0 where
  pub itself : (a : Past) → IsBefore a a
  pub onwards : (a b c : Past) → IsBefore a b → IsBefore b c → IsBefore a c
  pub one : (a b : Past) → IsBefore a b → IsBefore b a → a ≡ b

-- a past is before the one with a batch more, and before its rebase
pub record PublicationsGoOn : Type 0 where
  pub batch : (p : Past) (e : Entry) → IsBefore p (longer p e)
  pub rebase : (p : Past) → IsBefore p (rebased p)
