-- From what the calls promise to the outcomes.
use Rattle.std.proofs.Common.{◌≡◌, ℕ, ◌<◌, ◌≤◌, cond, List, length, take, Some, None, Ok, Err, Option, Result, sym, refl, ap, ◌∙◌, subst, inl, inr, arith}
use Rattle.std.proofs.lemmas.List.{take_at}
use Rattle.std.proofs.lemmas.Bool.{cases_lt, lt-ltb, le-ltb}
use Rattle.board.specs.Squares.{Place}
use Rattle.board.specs.Floors.{Floor}
use Rattle.drawn_floor.specs.declared.light.Light.{Light}
use Rattle.frame.specs.declared.faults.FrameFault.{FrameFault}
use Rattle.frame.specs.declared.faults.FrameFault.TheVariants.{Unknown}
use Rattle.frame.specs.Numbered.{frame_of, place_seen, Refuses}
use Rattle.map_format.specs.declared.drawing.Drawing.{Drawing}
use Rattle.map_format.specs.declared.faults.MapFault.{MapFault}
use Rattle.map_format.specs.Answer.{answer}
use Rattle.log_record.specs.declared.faults.LogFault.{LogFault}
use Rattle.log_format.specs.Log.{refusal}
use Rattle.survey.specs.declared.faults.SurveyFault.{SurveyFault}
use Rattle.survey.specs.declared.faults.SurveyFault.TheVariants.{Frame, Map, Log, Chart, Rover, Sweep, Sheet as Short}
use Rattle.survey.specs.Course.{moves_in, sheet_after}
use Rattle.survey.specs.Logs.{LogAnswered, floor_seen, field_seen}
use Rattle.survey.specs.Maps.{MapAnswered, map_floor, map_field, map_start}
use Rattle.survey.specs.Surveys.{Lent, Surveys}
use Rattle.known_floors.specs.Outcomes.{Outcome, refused_by, driven, drawn, in_frame, started_at, logged}
use Rattle.known_floors.specs.Calls.{Ample, Gives, MapCallsGive, LogCallsGive}

-- a survey with ample buffers gives the sheet of its run
surveys_give : {A : Type 0} (floor : Floor) (field : Place → A) (s : Place) (before after : Lent A) (r : Result ℕ SurveyFault) → Ample (driven floor s) 4096 before → Surveys floor field s before after r → Gives (driven floor s) r after.text
surveys_give floor field s before after (Ok n) a h =
    let same = ap (λ k. sheet_after floor s (moves_in floor s k)) a.tour in
    (h.3 ∙ ap (λ t. length t) same, ap (λ t. take n t) h.4 ∙ take_at _ _ n (sym h.3) ∙ same)
surveys_give floor field s before after (Err (Chart e)) a h = absurd (omega (arith, a.chart, h.0.0))
surveys_give floor field s before after (Err (Short e)) a h =
    let same = ap (λ k. length (sheet_after floor s (moves_in floor s k))) a.tour in
    absurd (omega (arith, a.room, h.2, same))
surveys_give floor field s before after (Err (Frame e)) a h = h
surveys_give floor field s before after (Err (Map e)) a h = h
surveys_give floor field s before after (Err (Log e)) a h = h
surveys_give floor field s before after (Err (Rover e)) a h = h
surveys_give floor field s before after (Err (Sweep e)) a h = h

-- so does a refusal that is answered
refusal_gives : (e : SurveyFault) (r : Result ℕ SurveyFault) (left : List ℕ) → r ≡ Err e → Gives (refused_by e) r left
refusal_gives e r left same = subst (λ q. Gives (refused_by e) q left) (sym same) refl

-- a number that no frame has is refused first, and every other is not
frame_gives : {A : Type 0} (f : ℕ) (outcome : Outcome) (before : Lent A) (r : Result ℕ SurveyFault) (left : List ℕ)
    → (8 ≤ f → (e : FrameFault) × Refuses f e × (r ≡ Err (Frame e)))
    → (f < 8 → Ample outcome 4096 before → Gives outcome r left)
    → Ample (in_frame f outcome) 4096 before → Gives (in_frame f outcome) r left
frame_gives f outcome before r left unframed framed =
    elim (cases_lt f 8) [
      | inl i ↦ subst (λ o. Ample o 4096 before → Gives o r left) (sym (ap (λ b. cond b outcome (refused_by (Frame (Unknown f)))) (lt-ltb f 8 i))) (framed i)
      | inr i ↦
          let w = unframed i in
          subst (λ o. Ample o 4096 before → Gives o r left) (sym (ap (λ b. cond b outcome (refused_by (Frame (Unknown f)))) (le-ltb f 8 i)))
          (λ _. refusal_gives (Frame (Unknown f)) r left (w.2 ∙ ap (λ e. Err (Frame e)) w.1.1))
    ]

map_gives : (f : ℕ) (a : Result Drawing MapFault) (before after : Lent Light) (r : Result ℕ SurveyFault) → MapAnswered f a before after r → Ample (drawn f a) 4096 before → Gives (drawn f a) r after.text
map_gives f (Ok d) before after r h a = surveys_give (map_floor f d) (map_field f d) (map_start f d) before after r a h
map_gives f (Err e) before after r h a = refusal_gives (Map e) r after.text h.0

pub map_calls_give : MapCallsGive 4096
map_calls_give m f before after r a h =
    frame_gives f (drawn f (answer m)) before r after.text (λ i. (h.unframed i).0) (λ i. map_gives f (answer m) before after r (h.framed i)) a

log_gives : (f : ℕ) (b : List ℕ) (o : Option LogFault) (before after : Lent ℕ) (r : Result ℕ SurveyFault) → LogAnswered f b o before after r → Ample (logged f b o) 4096 before → Gives (logged f b o) r after.text
log_gives f b (Some e) before after r h a = refusal_gives (Log e) r after.text h.0
log_gives f b None before after r h a =
    subst (λ o. Ample (started_at f b o) 4096 before → Gives (started_at f b o) r after.text) (sym h.1)
    (λ l. surveys_give (floor_seen f b) (field_seen f b) (place_seen (frame_of f) h.0) before after r l h.2)
    a

pub log_calls_give : LogCallsGive 4096
log_calls_give b f before after r a h =
    frame_gives f (logged f b (refusal b)) before r after.text (λ i. (h.unframed i).0) (λ i. log_gives f b (refusal b) before after r (h.framed i)) a
