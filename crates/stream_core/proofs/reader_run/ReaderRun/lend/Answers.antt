use Rattle.std.proofs.Common.{◌≡◌, ◌+◌, ◌<◌, length, drop, sym, ap, subst, arith}
use Rattle.past_model.specs.Past.{graph_of}
use Rattle.shard_table.specs.Table.{IsTable}
use Rattle.store_model.specs.declared.reply.Reply.TheVariants.{Slice}
use Rattle.store_model.specs.Events.{IsBeginning}
use Rattle.stream_core.specs.Runs.{words_in, version_of, IsLent}
use Rattle.stream_core.proofs.RunLemmas.{lent_end, lent_slice, few_lent}
use Rattle.stream_core.proofs.reader_run.ReaderRun.lend.Goals as goal

pub overflow_add-self : goal.overflow_add-self
overflow_add-self c =
    let n = c.requires.vertices in
    let more = c.in-Some.ensures (graph_of (version_of n c.args.self.now)) (subst (IsTable (graph_of (version_of n c.args.self.now))) (sym c.shards.ensures) c.requires.is.table) in
    let few = few_lent n c.args.self.now c.in-Some.slice.now c.requires.small c.requires.is more.1 in
    let copied = ap length c.in_ok-words-in-Some.ensures.items in
    let len = c.in_ok-words-in-Some.ensures.len in
    let is = c.len.ensures in
    omega (arith, few, copied, len, is)

pub returns-in-None-clause-ok : goal.returns-in-None-clause-ok
returns-in-None-clause-ok c =
    λ n.
    lent_end n c.args.self.now (λ is. c.in-None.ensures (graph_of (version_of n c.args.self.now)) (subst (IsTable (graph_of (version_of n c.args.self.now))) (sym c.shards.ensures) is.table))

pub returns-in_ok-words-in-Some-clause-ok : goal.returns-in_ok-words-in-Some-clause-ok
returns-in_ok-words-in-Some-clause-ok c =
    let r = c.args.self.now in
    let words = c.in_ok-words-in-Some.words in
    let copied = c.in_ok-words-in-Some.ensures.items in
    let same = ap length copied in
    let len = c.in_ok-words-in-Some.ensures.len in
    let is = c.len.ensures in
    let count : length words.items ≡ c.len.result = omega (arith, same, len, is) in
    λ n. subst (λ k. IsLent n r (Slice words) (record r { place = r.place + k })) count
    (lent_slice n r words (λ is.
    let graph = graph_of (version_of n r) in
    subst (λ l. (0 < length l) × IsBeginning l (drop r.place (words_in n r))) (sym copied) (c.in-Some.ensures graph (subst (IsTable graph) (sym c.shards.ensures) is.table))))
