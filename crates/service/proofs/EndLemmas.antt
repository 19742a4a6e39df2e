-- The last line of a script, where that lacks its end, and the end of the script.
use Rattle.std.proofs.Common.{◌≡◌, ◌<◌, ℕ, List, [], ◌++◌, length, Option, sym, ap, subst, ◌∙◌, append_assoc}
use Rattle.std.specs.Prelude.{Result, Ok, Err}
use Rattle.std.specs.Io.KnownBytes.{Appends}
use Rattle.std.proofs.lemmas.List.{append-nil}
use Rattle.map_model.specs.declared.listed_edge.ListedEdge.{ListedEdge}
use Rattle.script_model.specs.declared.ending.Ending.{Ending}
use Rattle.script_model.specs.declared.ending.Ending.TheVariants as endings
use Rattle.script_model.specs.declared.line_fault.LineFault.{LineFault}
use Rattle.script_model.specs.State.{Script}
use Rattle.script_model.specs.Execution.{Says, Stops, execution}
use Rattle.script_model.specs.Texts.{fault_text}
use Rattle.script_model.specs.Script.{Meaning, after_text, end_meaning, next_line, meaning}
use Rattle.service.specs.declared.serve_error.ServeError.{ServeError}
use Rattle.service.specs.Ends.{TakesFront}
use Rattle.service.specs.Served.{Served, IsOneLine}
use Rattle.service.specs.Stand.{Stand}
use Rattle.service.specs.Rounds.{Concludes, Ends, IsLast, IsWritten}
use Rattle.service.proofs.KnownLemmas.{appends_more}
use Rattle.service.proofs.Following.{served_end, served_last, served_last_fault}
use Rattle.service.proofs.RoundLemmas.{takes_more, lines_of, said_is}

-- ---- the end

abbrev last_text : Stand → List ℕ
last_text s = s.text ++ (end_meaning s.script.block).text

text_of : (read said : List ℕ) (s : Stand) → meaning read ≡ after_text (said ++ s.text) (end_meaning s.script.block) → (meaning read).text ≡ said ++ last_text s
text_of read said s means =
    ap (λ (o : Meaning). o.text) means ∙ append_assoc said s.text (end_meaning s.script.block).text

-- what is written so far
pub last_so_far : (read : List ℕ) (held holds : Option (List ℕ)) (s : Stand) → IsLast read held holds s → TakesFront held holds (meaning read).text
last_so_far read held holds s (said, wrote, means) = (said, last_text s, text_of read said s means, wrote)

pub end_begins : (read : List ℕ) (held kept holds : Option (List ℕ)) (s : Stand) (text : List ℕ) → text ≡ s.text ++ (end_meaning s.script.block).text → TakesFront kept holds text → IsLast read held kept s → TakesFront held holds (meaning read).text
end_begins read held kept holds s text is took (said, wrote, means) =
    takes_more held kept holds said text _ [] wrote took (text_of read said s means ∙ ap (λ (t : List ℕ). said ++ t) (sym is) ∙ sym (append-nil (said ++ text)))

pub end_written : (read : List ℕ) (held kept holds : Option (List ℕ)) (s : Stand) (text : List ℕ) (ending : Ending) → text ≡ s.text ++ (end_meaning s.script.block).text → ending ≡ (end_meaning s.script.block).ending → Appends kept holds text → IsLast read held kept s → (all : List ℕ) × Appends held holds all × (meaning read ≡ record { text = all; ending = ending })
end_written read held kept holds s text ending is ends wrote_more (said, wrote, means) =
    let whole : (said ++ s.text) ++ (end_meaning s.script.block).text ≡ said ++ text = append_assoc said s.text (end_meaning s.script.block).text ∙ ap (λ (t : List ℕ). said ++ t) (sym is) in
    let last : meaning read ≡ record { text = said ++ text; ending = (end_meaning s.script.block).ending } = means ∙ ap (λ (t : List ℕ). record { text = t; ending = (end_meaning s.script.block).ending }) whole in
    (said ++ text, appends_more held kept holds said text wrote wrote_more, last ∙ ap (λ (e : Ending). record { text = said ++ text; ending = e }) (sym ends))

-- where all lines are executed, the end concludes a script
pub ends_conclude : (r : Result Ending ServeError) (kept mid holds : Option (List ℕ)) (old last : Stand) → ((read : List ℕ) (held : Option (List ℕ)) → IsWritten read held kept old → IsLast read held mid last) → Ends r mid holds last → Concludes r kept holds old
ends_conclude (Ok ending) kept mid holds old last leads ends = λ read held wrote. ends read held (leads read held wrote)
ends_conclude (Err e) kept mid holds old last leads ends = λ read held wrote. ends read held (leads read held wrote)

-- ---- the last line

-- there is none
pub last_none : (read : List ℕ) (held kept : Option (List ℕ)) (s : Stand) → s.pending ≡ [] → s.text ≡ [] → IsWritten read held kept s → IsLast read held kept s
last_none read held kept s none empty (said, wrote, h) =
    let here : Served read said s.script [] = subst (λ (l : List ℕ). Served read said s.script l) none h in
    let same : said ≡ said ++ s.text = sym (ap (λ (t : List ℕ). said ++ t) empty ∙ append-nil said) in
    (said, wrote, served_end read said s.script here ∙ ap (λ (t : List ℕ). after_text t (end_meaning s.script.block)) same)

-- it is executed
pub last_executed : (read : List ℕ) (held kept : Option (List ℕ)) (s new : Stand) (rest t : List ℕ) (script behind : Script) → rest ≡ s.pending → script ≡ s.script → s.text ≡ [] → IsOneLine rest → 0 < length rest → execution script rest ≡ Says t behind → new.script ≡ next_line script.line behind → new.text ≡ s.text ++ t → IsWritten read held kept s → IsLast read held kept new
last_executed read held kept s new rest t script behind b x none one some says next text (said, wrote, h) =
    let here : Served read said script rest = rw (x, b) h in
    let means : meaning read ≡ after_text (said ++ t) (end_meaning behind.block) = served_last read said rest script t behind here one some says in
    let block : end_meaning behind.block ≡ end_meaning new.script.block = ap (λ (u : Script). end_meaning u.block) (sym next) in
    (said, wrote, means ∙ ap (λ (u : List ℕ). after_text (said ++ u) (end_meaning behind.block)) (said_is s.text new.text t none text) ∙ ap (λ (o : Meaning). after_text (said ++ new.text) o) block)

listed_means : (read said : List ℕ) (s : Stand) (rest added text : List ℕ) (edges : List ListedEdge) (script behind : Script) → rest ≡ s.pending → script ≡ s.script → s.text ≡ [] → IsOneLine rest → 0 < length rest → execution script rest ≡ Says (added ++ lines_of edges) behind → text ≡ s.text ++ added → Served read said s.script s.pending → meaning read ≡ after_text (said ++ (text ++ lines_of edges)) (end_meaning behind.block)
listed_means read said s rest added text edges script behind b x none one some says text_is h =
    let here : Served read said script rest = rw (x, b) h in
    served_last read said rest script (added ++ lines_of edges) behind here one some says ∙ ap (λ (u : List ℕ). after_text (said ++ (u ++ lines_of edges)) (end_meaning behind.block)) (said_is s.text text added none text_is)

-- it is executed, and the edges that it lists are written
pub last_listed : (read : List ℕ) (held kept holds : Option (List ℕ)) (s new : Stand) (rest added text : List ℕ) (edges : List ListedEdge) (script behind : Script) → rest ≡ s.pending → script ≡ s.script → s.text ≡ [] → IsOneLine rest → 0 < length rest → execution script rest ≡ Says (added ++ lines_of edges) behind → text ≡ s.text ++ added → new.script ≡ next_line script.line behind → new.text ≡ [] → Appends kept holds (text ++ lines_of edges) → IsWritten read held kept s → IsLast read held holds new
last_listed read held kept holds s new rest added text edges script behind b x none one some says text_is next empty wrote_more (said, wrote, h) =
    let all = said ++ (text ++ lines_of edges) in
    let means = listed_means read said s rest added text edges script behind b x none one some says text_is h in
    let block : end_meaning behind.block ≡ end_meaning new.script.block = ap (λ (u : Script). end_meaning u.block) (sym next) in
    let same : all ≡ all ++ new.text = sym (ap (λ (t : List ℕ). all ++ t) empty ∙ append-nil all) in
    (all, appends_more held kept holds said (text ++ lines_of edges) wrote wrote_more, means ∙ ap (λ (u : List ℕ). after_text u (end_meaning behind.block)) same ∙ ap (λ (o : Meaning). after_text (all ++ new.text) o) block)

-- or some of them
pub last_begins : (read : List ℕ) (held kept holds : Option (List ℕ)) (s : Stand) (rest added text : List ℕ) (edges : List ListedEdge) (script behind : Script) → rest ≡ s.pending → script ≡ s.script → s.text ≡ [] → IsOneLine rest → 0 < length rest → execution script rest ≡ Says (added ++ lines_of edges) behind → text ≡ s.text ++ added → TakesFront kept holds (text ++ lines_of edges) → IsWritten read held kept s → TakesFront held holds (meaning read).text
last_begins read held kept holds s rest added text edges script behind b x none one some says text_is took (said, wrote, h) =
    takes_more held kept holds said (text ++ lines_of edges) _ (end_meaning behind.block).text wrote took (ap (λ (o : Meaning). o.text) (listed_means read said s rest added text edges script behind b x none one some says text_is h))

fault_means : (read said : List ℕ) (s : Stand) (rest text : List ℕ) (script : Script) (fault : LineFault) → rest ≡ s.pending → script ≡ s.script → s.text ≡ [] → IsOneLine rest → 0 < length rest → execution script rest ≡ Stops fault → text ≡ s.text ++ fault_text fault script.line → Served read said s.script s.pending → meaning read ≡ record { text = said ++ text; ending = endings.Fault }
fault_means read said s rest text script fault b x none one some fails text_is h =
    let here : Served read said script rest = rw (x, b) h in
    served_last_fault read said rest script fault here one some fails ∙ ap (λ (u : List ℕ). record { text = said ++ u; ending = endings.Fault }) (said_is s.text text (fault_text fault script.line) none text_is)

-- it has a fault, which is written
pub last_fault : (read : List ℕ) (held kept holds : Option (List ℕ)) (s : Stand) (rest text : List ℕ) (script : Script) (fault : LineFault) → rest ≡ s.pending → script ≡ s.script → s.text ≡ [] → IsOneLine rest → 0 < length rest → execution script rest ≡ Stops fault → text ≡ s.text ++ fault_text fault script.line → Appends kept holds text → IsWritten read held kept s → (all : List ℕ) × Appends held holds all × (meaning read ≡ record { text = all; ending = endings.Fault })
last_fault read held kept holds s rest text script fault b x none one some fails text_is wrote_more (said, wrote, h) =
    (said ++ text, appends_more held kept holds said text wrote wrote_more, fault_means read said s rest text script fault b x none one some fails text_is h)

-- or a beginning of it
pub last_fault_begins : (read : List ℕ) (held kept holds : Option (List ℕ)) (s : Stand) (rest text : List ℕ) (script : Script) (fault : LineFault) → rest ≡ s.pending → script ≡ s.script → s.text ≡ [] → IsOneLine rest → 0 < length rest → execution script rest ≡ Stops fault → text ≡ s.text ++ fault_text fault script.line → TakesFront kept holds text → IsWritten read held kept s → TakesFront held holds (meaning read).text
last_fault_begins read held kept holds s rest text script fault b x none one some fails text_is took (said, wrote, h) =
    takes_more held kept holds said text _ [] wrote took (ap (λ (o : Meaning). o.text) (fault_means read said s rest text script fault b x none one some fails text_is h) ∙ sym (append-nil (said ++ text)))
