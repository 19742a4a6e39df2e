use Rattle.std.proofs.Common.{◌≡◌, ℕ, List, length, false, Ok, ap, sym, subst, ◌∙◌, arith}
use Rattle.word_sets.specs.Words.{has_word, IsPlace, IsSet}
use Rattle.gapped_array.specs.Runs.{words_in}
use Rattle.gapped_array.proofs.Layouts.{open_listed, run_read_at, taken, absent_stays}
use Rattle.gapped_array.proofs.array.GappedArray.remove.Goals as goal

pub words_of-requires : goal.words_of-requires
words_of-requires c =
    let run = run_read_at c.self.inside.cells.items c.self.inside.segments c.self.inside.runs.items c.args.vertex c.index.result.now c.in-Some.run' c.self.invariant.layout (open_listed c.self.inside.cells.items c.self.inside.runs.items c.args.self.now c.args.vertex c.self.view_is c.requires) c.index.ensures c.in-Some.is in
    omega (arith, run.inside, ap length c.deref.ensures.value)

pub returns-in_default-place-clause-words : goal.returns-in_default-place-clause-words
returns-in_default-place-clause-words c =
    let run = run_read_at c.self.inside.cells.items c.self.inside.segments c.self.inside.runs.items c.args.vertex c.index.result.now c.in-Some.run' c.self.invariant.layout (open_listed c.self.inside.cells.items c.self.inside.runs.items c.args.self.now c.args.vertex c.self.view_is c.requires) c.index.ensures c.in-Some.is in
    let read : c.words_of.result.now ≡ words_in c.self.inside.cells.items c.in-Some.run' = c.words_of.ensures ∙ ap (λ l. words_in l c.in-Some.run') c.deref.ensures.value in
    let absent : has_word c.args.word (words_in c.self.inside.cells.items c.in-Some.run') ≡ false = ap (has_word c.args.word) (sym read) ∙ c.in_default-place.ensures.2 in
    absent_stays c.self.inside.cells.items c.self.inside.runs.items c.args.self.now c.args.vertex c.in-Some.run' c.args.word c.self.view_is run.listed run.here absent

pub take_word-requires-clause-within : goal.take_word-requires-clause-within
take_word-requires-clause-within c =
    let run = run_read_at c.self.inside.cells.items c.self.inside.segments c.self.inside.runs.items c.args.vertex c.index.result.now c.in-Some.run' c.self.invariant.layout (open_listed c.self.inside.cells.items c.self.inside.runs.items c.args.self.now c.args.vertex c.self.view_is c.requires) c.index.ensures c.in-Some.is in
    omega (arith, run.inside, c.self.inside.cells.ok)

pub invariant_of-self : goal.invariant_of-self
invariant_of-self c =
    let run = run_read_at c.self.inside.cells.items c.self.inside.segments c.self.inside.runs.items c.args.vertex c.index.result.now c.in-Some.run' c.self.invariant.layout (open_listed c.self.inside.cells.items c.self.inside.runs.items c.args.self.now c.args.vertex c.self.view_is c.requires) c.index.ensures c.in-Some.is in
    let read : c.words_of.result.now ≡ words_in c.self.inside.cells.items c.in-Some.run' = c.words_of.ensures ∙ ap (λ l. words_in l c.in-Some.run') c.deref.ensures.value in
    let P : List ℕ → Type 0 = λ l. IsPlace c.args.word l (Ok c.in-Ok.at) in
    let place = subst P read c.in-Ok.ensures in
    let small = open_listed c.self.inside.cells.items c.self.inside.runs.items c.args.self.now c.args.vertex c.self.view_is c.requires in
    (taken c.self.inside.cells.items c.take_word.new.cells.items c.self.inside.segments c.self.inside.runs.items c.args.self.now c.args.vertex c.in-Some.run' c.in-Ok.at c.args.word c.self.invariant c.self.view_is small run.here place c.take_word.ensures).0

pub returns-clause-words : goal.returns-clause-words
returns-clause-words c =
    let run = run_read_at c.self.inside.cells.items c.self.inside.segments c.self.inside.runs.items c.args.vertex c.index.result.now c.in-Some.run' c.self.invariant.layout (open_listed c.self.inside.cells.items c.self.inside.runs.items c.args.self.now c.args.vertex c.self.view_is c.requires) c.index.ensures c.in-Some.is in
    let read : c.words_of.result.now ≡ words_in c.self.inside.cells.items c.in-Some.run' = c.words_of.ensures ∙ ap (λ l. words_in l c.in-Some.run') c.deref.ensures.value in
    let P : List ℕ → Type 0 = λ l. IsPlace c.args.word l (Ok c.in-Ok.at) in
    let place = subst P read c.in-Ok.ensures in
    let small = open_listed c.self.inside.cells.items c.self.inside.runs.items c.args.self.now c.args.vertex c.self.view_is c.requires in
    (taken c.self.inside.cells.items c.take_word.new.cells.items c.self.inside.segments c.self.inside.runs.items c.args.self.now c.args.vertex c.in-Some.run' c.in-Ok.at c.args.word c.self.invariant c.self.view_is small run.here place c.take_word.ensures).1

pub place-requires : goal.place-requires
place-requires c =
    let run = run_read_at c.self.inside.cells.items c.self.inside.segments c.self.inside.runs.items c.args.vertex c.index.result.now c.in-Some.run' c.self.invariant.layout (open_listed c.self.inside.cells.items c.self.inside.runs.items c.args.self.now c.args.vertex c.self.view_is c.requires) c.index.ensures c.in-Some.is in
    subst IsSet (sym (c.words_of.ensures ∙ ap (λ l. words_in l c.in-Some.run') c.deref.ensures.value)) run.fits.words
