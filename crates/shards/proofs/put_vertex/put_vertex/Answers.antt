use Rattle.std.proofs.Common.{◌≡◌, [], length, get_or, sym, ap, ◌∙◌}
use Rattle.past_model.specs.declared.home.Home.TheVariants.{Block}
use Rattle.past_model.specs.Homes.{home_after}
use Rattle.shards.specs.Lists.{rows_of, homes_of}
use Rattle.shards.specs.Part.{home_at}
use Rattle.shards.proofs.HomeLemmas.{same_home}
use Rattle.shards.proofs.PartLemmas.{untouched_row, own_edits}
use Rattle.shards.proofs.BegunLemmas.{edits_in, own_of_vertex, merged_of_vertex, put_last}
use Rattle.shards.proofs.put_vertex.put_vertex.Goals as goal

-- a list without an edit
pub returns-then-is_unedited : goal.returns-then-is_unedited
returns-then-is_unedited c =
    let groups = c.args.groups.now in
    let vertex = c.args.vertex in
    let row = get_or (rows_of c.args.page.now) c.args.place [] in
    let home = get_or (homes_of c.args.page.now) c.args.place Block in
    put_last groups.edits vertex row row home home record { added = 0; removed = 0 } _ _ c.in_ok-push_kept.ensures
    (λ p its. its.own_home ∙ same_home p vertex its.shard its.within ∙ ap (λ l. home_after (home_at p vertex) (length l)) (sym its.own_row))
    (λ p its u n q from same. untouched_row (own_edits p groups.edits vertex) u n q row (sym (edits_in groups p vertex c.requires.vertices) ∙ c.is_unedited.ensures.0 c.if-is_unedited.true) (its.own_row ∙ same))

pub push_edited-requires-clause-edits : goal.push_edited-requires-clause-edits
push_edited-requires-clause-edits c =
    own_of_vertex c.args.groups.now c.args.vertex (get_or (rows_of c.args.page.now) c.args.place []) (get_or (homes_of c.args.page.now) c.args.place Block) c.read.new.edits.items c.requires.vertices c.requires.its c.in_ok-read.ensures

pub returns : goal.returns
returns c =
    let groups = c.args.groups.now in
    let vertex = c.args.vertex in
    let row = get_or (rows_of c.args.page.now) c.args.place [] in
    let home = get_or (homes_of c.args.page.now) c.args.place Block in
    let edited = c.in_ok-more.ensures in
    put_last groups.edits vertex row edited.after home edited.to c.in_ok-more.more _ _ edited.pushed
    (λ p its. edited.moved ∙ ap (λ h. home_after h (length edited.after)) its.own_home)
    (λ p its. merged_of_vertex groups p vertex row home c.read.new.edits.items edited.after c.in_ok-more.more c.requires.vertices its c.in_ok-read.ensures edited.merged)
