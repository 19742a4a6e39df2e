use Rattle.std.proofs.Common.{length, ap, subst, sym, ◌∙◌, arith}
use Rattle.word_sets.specs.Words.{IsSet}
use Rattle.gapped_array.specs.Runs.{words_in}
use Rattle.gapped_array.proofs.Layouts.{open_listed, run_read_at}
use Rattle.gapped_array.proofs.array.GappedArray.words.Goals as goal

pub words_of-requires : goal.words_of-requires
words_of-requires c =
    let run = run_read_at c.self.inside.cells.items c.self.inside.segments c.self.inside.runs.items c.args.vertex c.index.result.now c.in-Some.run' c.self.invariant.layout (open_listed c.self.inside.cells.items c.self.inside.runs.items c.args.self.now c.args.vertex c.self.view_is c.requires) c.index.ensures c.in-Some.is in
    omega (arith, run.inside, ap length c.deref.ensures.value)

pub returns-clause-set : goal.returns-clause-set
returns-clause-set c =
    let run = run_read_at c.self.inside.cells.items c.self.inside.segments c.self.inside.runs.items c.args.vertex c.index.result.now c.in-Some.run' c.self.invariant.layout (open_listed c.self.inside.cells.items c.self.inside.runs.items c.args.self.now c.args.vertex c.self.view_is c.requires) c.index.ensures c.in-Some.is in
    subst IsSet (sym (c.words_of.ensures ∙ ap (λ l. words_in l c.in-Some.run') c.deref.ensures.value)) run.fits.words
