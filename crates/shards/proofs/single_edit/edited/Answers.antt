use Rattle.std.proofs.Common.{◌≡◌, ◌+◌, ◌-◌, ◌++◌, ◌∷◌, [], Ok, Err, length, take, drop, sym, ap, ◌∙◌, length-drop, arith}
use Rattle.std.proofs.lemmas.List.{take_all}
use Rattle.shards.proofs.SingleLemmas.{list_after, step_of, merged_by}
use Rattle.shards.proofs.single_edit.edited.Goals as goal

pub returns-in-Insert-Err : goal.returns-in-Insert-Err
returns-in-Insert-Err c =
    let e = c.args.edit.now in
    let targets = c.args.targets.now in
    let place = c.in-Insert-Err.place in
    let target = c.in-Insert-Err.target in
    let words : c.put-in-Insert-Err.new.words.items ≡ (([] ++ take place targets) ++ target ∷ []) ++ drop place targets =
    c.put-in-Insert-Err.ensures
    ∙ ap (λ l. c.push.new.self.items ++ l) c.split_at.ensures.back
    ∙ ap (λ l. l ++ drop place targets) (c.push.ensures.items ∙ ap (λ l. l ++ target ∷ []) (c.put.ensures ∙ ap (λ l. c.new-words.result.items ++ l) c.split_at.ensures.front ∙ ap (λ l. l ++ take place targets) c.new-words.ensures)) in
    merged_by e (Err place) c.target.result targets c.put-in-Insert-Err.new.words.items record { added = 1; removed = 0 } c.target.ensures c.in-Insert-Err.ensures.position
    (words ∙ sym (ap (λ d. list_after (step_of d (Err place) targets)) c.in-Insert-Err.is-0))
    (sym (ap (λ d. (step_of d (Err place) targets).counts) c.in-Insert-Err.is-0))

pub returns-in-Insert-Ok : goal.returns-in-Insert-Ok
returns-in-Insert-Ok c =
    let e = c.args.edit.now in
    let targets = c.args.targets.now in
    let place = c.in-Insert-Ok.field-0-1 in
    let words : c.put-in-Insert-Ok.new.words.items ≡ targets = c.put-in-Insert-Ok.ensures ∙ ap (λ l. l ++ targets) c.new-words.ensures in
    merged_by e (Ok place) c.target.result targets c.put-in-Insert-Ok.new.words.items record { added = 0; removed = 0 } c.target.ensures c.in-Insert-Ok.ensures.position
    (words ∙ sym (ap (λ d. list_after (step_of d (Ok place) targets)) c.in-Insert-Ok.is-0))
    (sym (ap (λ d. (step_of d (Ok place) targets).counts) c.in-Insert-Ok.is-0))

pub returns-in-Remove-Ok : goal.returns-in-Remove-Ok
returns-in-Remove-Ok c =
    let e = c.args.edit.now in
    let targets = c.args.targets.now in
    let place = c.in-Remove-Ok.place in
    let words : c.put-in-Remove-Ok-2.new.words.items ≡ ([] ++ take place targets) ++ drop (place + 1) targets =
    c.put-in-Remove-Ok-2.ensures
    ∙ ap (λ l. c.put-in-Remove-Ok.new.words.items ++ l) (take_all (length targets - (place + 1)) (drop (place + 1) targets) (omega (arith, length-drop (place + 1) targets)))
    ∙ ap (λ l. l ++ drop (place + 1) targets) (c.put-in-Remove-Ok.ensures ∙ ap (λ l. l ++ take place targets) c.new-words.ensures) in
    merged_by e (Ok place) c.target.result targets c.put-in-Remove-Ok-2.new.words.items record { added = 0; removed = 1 } c.target.ensures c.in-Remove-Ok.ensures.position
    (words ∙ sym (ap (λ d. list_after (step_of d (Ok place) targets)) c.in-Remove-Ok.is-0))
    (sym (ap (λ d. (step_of d (Ok place) targets).counts) c.in-Remove-Ok.is-0))

pub returns-in-Remove-Err : goal.returns-in-Remove-Err
returns-in-Remove-Err c =
    let e = c.args.edit.now in
    let targets = c.args.targets.now in
    let place = c.in-Remove-Err.field-0-1 in
    let words : c.put-in-Remove-Err.new.words.items ≡ targets = c.put-in-Remove-Err.ensures ∙ ap (λ l. l ++ targets) c.new-words.ensures in
    merged_by e (Err place) c.target.result targets c.put-in-Remove-Err.new.words.items record { added = 0; removed = 0 } c.target.ensures c.in-Remove-Err.ensures.position
    (words ∙ sym (ap (λ d. list_after (step_of d (Err place) targets)) c.in-Remove-Err.is-0))
    (sym (ap (λ d. (step_of d (Err place) targets).counts) c.in-Remove-Err.is-0))
