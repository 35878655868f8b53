-- What one run of a new sweep over an empty chart leaves, from what the sweep promises.
use Rattle.std.proofs.Common.{◌≡◌, ℕ, ◌+◌, ◌≤◌, List, length, sym, ap, ◌∙◌, subst, inl, inr, zero-add, arith}
use Rattle.std.proofs.lemmas.Bool.{cases_lt}
use Rattle.board.specs.Headings.{letter}
use Rattle.rover.specs.declared.meaning.Rover.{Ghosts}
use Rattle.chart.specs.Charts.{Slot, SameBeyond}
use Rattle.tour.specs.History.{old, times}
use Rattle.tour.specs.Tour.{tour, letters, visited, move_after, tour_looks, home_after}
use Rattle.tour.proofs.Numbers.{one_number}
use Rattle.sweep.specs.declared.sweep.Record.{Record}
use Rattle.sweep.specs.declared.sweep.Sweep.{Sweep}
use Rattle.sweep.specs.Promise.{Promise, OnChart, Letters, SameFrom}
use Rattle.sweep.specs.Journey.{Journey, Charts}
use Rattle.sweep.proofs.Gathering.{letters_listed}
use Rattle.survey.specs.Course.{moves_in, old_count, record_after}
use Rattle.survey.specs.Surveys.{Driven}
use Rattle.survey.proofs.Olds.{old_number}
use Rattle.survey.proofs.Coursing.{moves_are, front_and_rest}

same_record : (a b : Record) → a.moves ≡ b.moves → a.looks ≡ b.looks → a.megacells ≡ b.megacells → a.home ≡ b.home → a ≡ b
same_record a b m l c h = λ i. record { moves = m i; looks = l i; megacells = c i; home = h i }

module _ {R A : Type 0} (G : Ghosts R A) (origin : R) (after : Sweep R A) (slots slots_after : List (Slot A)) (bytes bytes_after : List ℕ) (made : ℕ) where
  -- as many moves as letters were made, and they are those that the buffer takes
  pub made_are : Journey G origin (0 + length bytes) after → after.told.moves ≡ made → made ≡ moves_in (G.floor origin) (G.place origin) (length bytes)
  made_are j e =
      let w = (subst (λ (n : ℕ). Journey G origin n after) (zero-add (length bytes)) j).workings in
      sym e ∙ moves_are (G.floor origin) (G.place origin) (length bytes) after.told.moves after.told.home w.underway w.homed w.due w.most

  -- the record is the tour's
  pub record_is : (told : Record) (asked : ℕ) → Journey G origin asked after → after.told.moves ≡ made → told ≡ after.told → told ≡ record_after (G.floor origin) (G.place origin) made
  record_is told asked j e is =
      is
      ∙ same_record after.told (record_after (G.floor origin) (G.place origin) made)
      e
      (j.promise.looks ∙ ap (tour_looks (G.floor origin) (G.place origin)) e)
      (one_number.tested (old (G.place origin) (visited (G.floor origin) (G.place origin) after.told.moves)) _ _ j.promise.cells (old_number (G.place origin) (visited (G.floor origin) (G.place origin) after.told.moves))
      ∙ ap (λ (n : ℕ). old_count (G.place origin) (visited (G.floor origin) (G.place origin) n)) e)
      (j.workings.homed ∙ ap (home_after (G.floor origin) (G.place origin)) e)

  pub driven_by : (asked : ℕ) → Journey G origin asked after → Charts G origin after slots_after → after.told.moves ≡ made → made ≤ length bytes → length bytes_after ≡ length bytes →
      Letters (G.floor origin) (G.place origin) 0 made bytes_after → SameFrom made bytes bytes_after → SameBeyond slots slots_after →
      Driven (G.floor origin) (G.field origin) (G.place origin) made slots bytes slots_after bytes_after
  driven_by asked j ch e fits long wrote rest beyond =
      let c : OnChart (G.floor origin) (G.field origin) (G.place origin) made slots_after = subst (λ (n : ℕ). OnChart (G.floor origin) (G.field origin) (G.place origin) n slots_after) e ch in
      let p : Promise (G.floor origin) (G.place origin) asked (G.place after.rover) made after.told.looks after.told.megacells after.told.home = subst (λ (n : ℕ). Promise (G.floor origin) (G.place origin) asked (G.place after.rover) n after.told.looks after.told.megacells after.told.home) e j.promise in
      let homed : after.told.home ≡ home_after (G.floor origin) (G.place origin) made = j.workings.homed ∙ ap (home_after (G.floor origin) (G.place origin)) e in
      record {
        chart = c;
        beyond = beyond;
        tour = front_and_rest made (letters (tour (G.floor origin) (G.place origin) made)) bytes bytes_after long
            (letters_listed (G.floor origin) (G.place origin) made bytes_after (omega arith) (λ i h. wrote i h ∙ ap (λ (k : ℕ). letter (move_after (G.floor origin) (G.place origin) k).heading) (zero-add i))) rest;
        ground = λ h q g. c.charted q (p.whole (homed ∙ h) q g);
        elsewhere = λ q n. elim (cases_lt 0 (times q (visited (G.floor origin) (G.place origin) made))) [
          | inl h ↦ absurd (n (p.inside q (omega arith)))
          | inr h ↦ c.blank q (omega arith)
        ];
      }
