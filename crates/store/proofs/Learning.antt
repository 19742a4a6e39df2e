-- What a reader's side keeps where it learns of a version of its store.
use Rattle.std.proofs.Common.{◌≡◌, ℕ, Option, Some, None, IfSome, sym, ◌∙◌}
use Rattle.history.specs.Moment.{Moment, Beginning, moment_of, OneStore}
use Rattle.history.proofs.Moments.{vertex_count-moment_of}
use Rattle.store.specs.declared.board.board_view.BoardView.{BoardView}
use Rattle.store.specs.declared.board.member.Member.{Member}
use Rattle.store.specs.BoardViews.{Knows}
use Rattle.store.specs.Pool.{IsMember}

-- two beginnings of one book are of one store
pub one_book : (n : ℕ) (a b : Beginning) → b.book ≡ a.book → OneStore (moment_of n a) (moment_of n b)
one_book n a b book = (book, vertex_count-moment_of n b ∙ sym (vertex_count-moment_of n a))

pub knows_still : (a b : Moment) (g : BoardView) → OneStore a b → Knows a g → Knows b g
knows_still a b g one (knows, (book, count)) = (knows, (book ∙ sym one.0, count ∙ sym one.1))

pub all_know : {X : Type 0} (a b : Moment) (o : Option X) (f : X → BoardView) → OneStore a b → IfSome o (λ x. Knows a (f x)) → IfSome o (λ x. Knows b (f x))
all_know a b None f one knows = tt
all_know a b (Some x) f one knows = knows_still a b (f x) one knows

pub member_still : (a b : Moment) (v : Member) → OneStore a b → IsMember a v → IsMember b v
member_still a b v one (sole, (book, count)) = (sole, (book ∙ sym one.0, count ∙ sym one.1))
