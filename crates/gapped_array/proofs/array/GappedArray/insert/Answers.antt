use Rattle.std.proofs.Common.{◌≡◌, ℕ, List, length, true, Err, ap, sym, subst, ◌∙◌, arith}
use Rattle.word_sets.specs.Words.{has_word, IsPlace, IsSet}
use Rattle.gapped_array.specs.Runs.{words_in}
use Rattle.gapped_array.proofs.Layouts.{open_listed, run_read_at, words_few, inserted, present_stays}
use Rattle.gapped_array.proofs.array.GappedArray.insert.Goals as goal

pub words_of-requires : goal.words_of-requires
words_of-requires c =
    let run = run_read_at c.self.inside.cells.items c.self.inside.segments c.self.inside.runs.items c.args.vertex c.index.result.now c.in-Some.run' c.self.invariant.layout (open_listed c.self.inside.cells.items c.self.inside.runs.items c.args.self.now c.args.vertex c.self.view_is c.requires.open) c.index.ensures c.in-Some.is in
    omega (arith, run.inside, ap length c.deref.ensures.value)

pub returns-in_default-place-clause-ok : goal.returns-in_default-place-clause-ok
returns-in_default-place-clause-ok c =
    let run = run_read_at c.self.inside.cells.items c.self.inside.segments c.self.inside.runs.items c.args.vertex c.index.result.now c.in-Some.run' c.self.invariant.layout (open_listed c.self.inside.cells.items c.self.inside.runs.items c.args.self.now c.args.vertex c.self.view_is c.requires.open) c.index.ensures c.in-Some.is in
    let read : c.words_of.result.now ≡ words_in c.self.inside.cells.items c.in-Some.run' = c.words_of.ensures ∙ ap (λ l. words_in l c.in-Some.run') c.deref.ensures.value in
    let present : has_word c.args.word (words_in c.self.inside.cells.items c.in-Some.run') ≡ true = ap (has_word c.args.word) (sym read) ∙ c.in_default-place.ensures.2 in
    present_stays c.self.inside.cells.items c.self.inside.runs.items c.args.self.now c.args.vertex c.in-Some.run' c.args.word c.self.view_is run.listed run.here run.fits.words present

pub with_room-requires-clause-inside : goal.with_room-requires-clause-inside
with_room-requires-clause-inside c =
    let run = run_read_at c.self.inside.cells.items c.self.inside.segments c.self.inside.runs.items c.args.vertex c.index.result.now c.in-Some.run' c.self.invariant.layout (open_listed c.self.inside.cells.items c.self.inside.runs.items c.args.self.now c.args.vertex c.self.view_is c.requires.open) c.index.ensures c.in-Some.is in
    run.fits.inside

pub with_room-requires-clause-count : goal.with_room-requires-clause-count
with_room-requires-clause-count c =
    let run = run_read_at c.self.inside.cells.items c.self.inside.segments c.self.inside.runs.items c.args.vertex c.index.result.now c.in-Some.run' c.self.invariant.layout (open_listed c.self.inside.cells.items c.self.inside.runs.items c.args.self.now c.args.vertex c.self.view_is c.requires.open) c.index.ensures c.in-Some.is in
    run.fits.count

pub overflow_add-run-2 : goal.overflow_add-run-2
overflow_add-run-2 c =
    let run = run_read_at c.self.inside.cells.items c.self.inside.segments c.self.inside.runs.items c.args.vertex c.index.result.now c.in-Some.run' c.self.invariant.layout (open_listed c.self.inside.cells.items c.self.inside.runs.items c.args.self.now c.args.vertex c.self.view_is c.requires.open) c.index.ensures c.in-Some.is in
    omega (arith, c.in_ok-run.ensures.ok.same, words_few c.self.inside.cells.items c.self.inside.segments c.in-Some.run' c.self.invariant.layout.cells run.fits)

pub invariant_of-self-2 : goal.invariant_of-self-2
invariant_of-self-2 c =
    let run = run_read_at c.self.inside.cells.items c.self.inside.segments c.self.inside.runs.items c.args.vertex c.index.result.now c.in-Some.run' c.self.invariant.layout (open_listed c.self.inside.cells.items c.self.inside.runs.items c.args.self.now c.args.vertex c.self.view_is c.requires.open) c.index.ensures c.in-Some.is in
    let read : c.words_of.result.now ≡ words_in c.self.inside.cells.items c.in-Some.run' = c.words_of.ensures ∙ ap (λ l. words_in l c.in-Some.run') c.deref.ensures.value in
    let P : List ℕ → Type 0 = λ l. IsPlace c.args.word l (Err c.in-Err.at) in
    let place = subst P read c.in-Err.ensures in
    let small = open_listed c.self.inside.cells.items c.self.inside.runs.items c.args.self.now c.args.vertex c.self.view_is c.requires.open in
    (inserted c.self.inside.cells.items c.with_room.new.cells.items c.put_word.new.cells.items c.self.inside.segments c.max-self-inside.result c.self.inside.runs.items c.args.self.now c.args.vertex c.in-Some.run' c.in_ok-run.run' c.in-Err.at c.args.word c.self.invariant c.self.view_is small run.here c.in_ok-run.ensures.ok c.requires.word place c.put_word.ensures c.max-self-inside.ensures).0

pub returns-clause-ok : goal.returns-clause-ok
returns-clause-ok c =
    let run = run_read_at c.self.inside.cells.items c.self.inside.segments c.self.inside.runs.items c.args.vertex c.index.result.now c.in-Some.run' c.self.invariant.layout (open_listed c.self.inside.cells.items c.self.inside.runs.items c.args.self.now c.args.vertex c.self.view_is c.requires.open) c.index.ensures c.in-Some.is in
    let read : c.words_of.result.now ≡ words_in c.self.inside.cells.items c.in-Some.run' = c.words_of.ensures ∙ ap (λ l. words_in l c.in-Some.run') c.deref.ensures.value in
    let P : List ℕ → Type 0 = λ l. IsPlace c.args.word l (Err c.in-Err.at) in
    let place = subst P read c.in-Err.ensures in
    let small = open_listed c.self.inside.cells.items c.self.inside.runs.items c.args.self.now c.args.vertex c.self.view_is c.requires.open in
    (inserted c.self.inside.cells.items c.with_room.new.cells.items c.put_word.new.cells.items c.self.inside.segments c.max-self-inside.result c.self.inside.runs.items c.args.self.now c.args.vertex c.in-Some.run' c.in_ok-run.run' c.in-Err.at c.args.word c.self.invariant c.self.view_is small run.here c.in_ok-run.ensures.ok c.requires.word place c.put_word.ensures c.max-self-inside.ensures).1

pub place-requires : goal.place-requires
place-requires c =
    let run = run_read_at c.self.inside.cells.items c.self.inside.segments c.self.inside.runs.items c.args.vertex c.index.result.now c.in-Some.run' c.self.invariant.layout (open_listed c.self.inside.cells.items c.self.inside.runs.items c.args.self.now c.args.vertex c.self.view_is c.requires.open) c.index.ensures c.in-Some.is in
    subst IsSet (sym (c.words_of.ensures ∙ ap (λ l. words_in l c.in-Some.run') c.deref.ensures.value)) run.fits.words
