-- A history fits a script where its lines do. A call that parks stands in line where it has its reply, so whether it is
-- due is seen from behind: at the places where its line is, or where all lines end, and until then its process stays.
use Rattle.std.proofs.Common.{◌≡◌, ◌≢◌, ◌∙◌, ℕ, Bool, true, false, ◌&&◌, ◌||◌, nat_eq, List, [], ◌∷◌, ◌++◌, Option, Some, None, is_some, refl, ap, sym, subst, inl, inr}
use Rattle.std.specs.Prelude.{if◌then◌else◌, fold}
use Rattle.std.specs.Option.{option_map}
use Rattle.std.proofs.lemmas.Bool.{cases_Bool, cases_eq, false≢true, true≢false}
use Rattle.pico_base.specs.declared.call.Call.{Call}
use Rattle.pico_base.specs.declared.call.Call.TheVariants as calls
use Rattle.pico_base.specs.declared.numbers.Name.{Name}
use Rattle.pico_base.specs.declared.reply.Entry.{Entry}
use Rattle.pico_base.specs.declared.reply.Errno.TheVariants.{Eintr}
use Rattle.pico_base.specs.declared.reply.Outcome.{Outcome}
use Rattle.pico_base.specs.declared.reply.Reply.{Reply}
use Rattle.pico_base.specs.declared.reply.Reply.TheVariants as replies
use Rattle.pico_base.specs.declared.script.Script.{Script}
use Rattle.number_maps.specs.Maps.{get, put}
use Rattle.number_maps.specs.Rising.{IsRising}
use Rattle.number_maps.proofs.LookUps.{get-first, get-later, get-put-same, get-put-other}
use Rattle.number_maps.proofs.Order.{eq-same, eq-other}
use Rattle.number_maps.proofs.Rising.{rising-nothing, rising-put}
use Rattle.kernel_model.specs.Effect.{reply_alone}
use Rattle.kernel_model.specs.Fitting as plain
use Rattle.kernel_model.specs.Fitting.{IsDue, Place, block_at, block_place, child_vars, due, is_killed, move_on, place_after}
use Rattle.kernel_model.specs.History.{number_in}
use Rattle.kernel_laws.proofs.Plain.{not_some}
use Rattle.waiting_model.specs.Calls.{may_park, withdrawn_from}
use Rattle.waiting_model.specs.Kernel.{Kernel, living_at, opening}
use Rattle.waiting_model.specs.Marks.{Alive, is_parked_at}
use Rattle.waiting_model.specs.Transition.{Successor, may_withdraw, successor, transition}
use Rattle.waiting_model.specs.History.{Replays}
use Rattle.waiting_model.specs.Fitting.{FitsFrom, IsNext, Places, Progress, after_entry, after_fork, after_own, after_wake, after_woken, answered, at_place, opening_places, places_after, woken_at}
use Rattle.waiting_model.specs.Linear.{Lined, in_line, line_all, line_entry, line_of, no_lines}
use Rattle.waiting_laws.specs.Fits.{AreAlike, AreDue, HistoriesFitByLines, IsDueAt, place_of}
use Rattle.waiting_laws.specs.Lines.{OnlyWaitsPark, lines_by, lines_of, marked_line, own_line, wait_line, wait_lines, withdrawn_line}
use Rattle.waiting_laws.specs.MarkMoves.{MovesMarks, own_mark}
use Rattle.waiting_laws.specs.Parked.{mark_in, mark_of}
use Rattle.waiting_laws.specs.Woken.{WakesRightly, WokenOnce, woken_in}
use Rattle.waiting_laws.proofs.Entries.{entry-fine, opening-fine, opening-unmarked}
use Rattle.waiting_laws.proofs.GoingOn.{AreMarked, StepsOn, append-both, append-nothing, lines-are, or-true, steps-on}
use Rattle.waiting_laws.proofs.Marked.{Fine, no-mark}
use Rattle.waiting_laws.proofs.MarkMoves.{entry-moves}
use Rattle.waiting_laws.proofs.Options.{same-some, some-isnt-none}
use Rattle.waiting_laws.proofs.ParkWaits.{IsReached, entry-waits, opening-reached}
use Rattle.waiting_laws.proofs.Places.{Agree, agree-own, agree-step, fork-number, opening-agree, own_places, places-are-marks}
use Rattle.waiting_laws.proofs.SoundFine.{sound-fine}
use Rattle.waiting_laws.proofs.Soundness.{entries-keep-soundness}
use Rattle.waiting_laws.proofs.Steps.{Leaves, Makes, leaves, makes}
use Rattle.waiting_laws.proofs.Woken.{acts-by, entry-wakes}

-- ---- fitting in two parts

record Halves (script : Script) (ps : plain.Places) (xs ys : List Entry) (last : plain.Places) : Type 0 where
  mid : plain.Places
  first : plain.FitsFrom script ps xs mid
  rest : plain.FitsFrom script mid ys last

halves : (script : Script) (ps last : plain.Places) (xs ys : List Entry) → plain.FitsFrom script ps (xs ++ ys) last
    → Halves script ps xs ys last
halves script ps last [] ys f = record { mid = ps; first = refl; rest = f }
halves script ps last (e ∷ xs) ys f =
    let h : Halves script (plain.places_after script ps e f.place) xs ys last =
    halves script (plain.places_after script ps e f.place) last xs ys f.rest
    in record {
      mid = h.mid;
      first = record { place = f.place; there = f.there; due = f.due; replied = f.replied; rest = h.first };
      rest = h.rest;
    }

-- ---- places that are alike

-- a process is at the place that the other one has for it
alike-put : (W : Places) (ps after : plain.Places) (n : ℕ) (p : Progress) → AreAlike W ps
    → get after n ≡ Some p.place → ((q : ℕ) → q ≢ n → get after q ≡ get ps q) → AreAlike (put W n p) after
alike-put W ps after n p alike now others q =
    elim (cases_eq q n) [
      | inl same ↦
          subst (λ (i : ℕ). option_map place_of (get (put W n p) i) ≡ get after i) (sym same)
          (ap (option_map place_of) (get-put-same W n p) ∙ sym now)
      | inr ne ↦ ap (option_map place_of) (get-put-other W n p q ne) ∙ (alike q ∙ sym (others q ne))
    ]

-- there is a progress at that place
record IsAtPlace (W : Places) (n : ℕ) (place : Place) : Type 0 where
  progress : Progress
  there : get W n ≡ Some progress
  same : progress.place ≡ place

at-place : (W : Places) (ps : plain.Places) (n : ℕ) (place : Place) → AreAlike W ps → get ps n ≡ Some place
    → IsAtPlace W n place
at-place W ps n place alike there = by_option (get W n) refl (alike n ∙ there)
  where
    by_option : (o : Option Progress) → get W n ≡ o → option_map place_of o ≡ Some place → IsAtPlace W n place
    by_option None is h = not_some place h
    by_option (Some p) is h = record { progress = p; there = is; same = same-some p.place place h }

place-there : (W : Places) (ps : plain.Places) (n : ℕ) (p : Progress) → AreAlike W ps → get W n ≡ Some p
    → get ps n ≡ Some p.place
place-there W ps n p alike there = sym (alike n) ∙ ap (option_map place_of) there

-- a call that is due elsewhere, where its process is at the same place
due-before : (ps after : plain.Places) (q : ℕ) (call : Call) → get after q ≡ get ps q → IsDueAt after q call
    → IsDueAt ps q call
due-before ps after q call same d = record { place = d.place; there = sym same ∙ d.there; due = d.due }

-- ---- calls that may have to wait

waits-forks-nothing : (script : Script) (ps : plain.Places) (place : Place) (call : Call) (own : Option Reply)
    → may_park call ≡ true → plain.places_after_fork script ps place call own ≡ ps
waits-forks-nothing script ps place (calls.Fork block) own h = absurd (false≢true h)
waits-forks-nothing script ps place call own h = refl

-- a call that may park isn't an end by a signal
pub waits-kills-nothing : (call : Call) → may_park call ≡ true → is_killed call ≡ false
waits-kills-nothing (calls.Killed sig) h = absurd (false≢true h)
waits-kills-nothing call h = refl

-- but for an end by a signal, a call that may come is what the block has next
pub due-itself : (place : Place) (call : Call) → is_killed call ≡ false → IsDue place call → due place ≡ Some call
due-itself place call not_killed (inl d) = d
due-itself place call not_killed (inr k) = absurd (false≢true (sym not_killed ∙ k.0))

moves-by-reply : (place : Place) (call : Call) (own : Option Reply) → is_killed call ≡ false
    → move_on place call own ≡ place_after place call own
moves-by-reply place call own h =
    ap (λ (b : Bool). (if b then record place { left = [] } else place_after place call own)) h

-- ---- those who are woken

module _ (script : Script) (k : Kernel) (parks : OnlyWaitsPark k) (node : ℕ) where
  -- what one wait's line leaves
  record OneWoken (w : ℕ × Reply) (ps after : plain.Places) : Type 0 where
    due : (call : Call) → mark_in k.processes w.0 ≡ Some call → IsDueAt ps w.0 call
    others : (q : ℕ) → q ≢ w.0 → get after q ≡ get ps q
    alike : (W : Places) → AreAlike W ps
        → ((p : Progress) → get W w.0 ≡ Some p → p.parked ≡ is_some (mark_in k.processes w.0))
        → AreAlike (after_woken W w) after

  -- who isn't parked stays
  wakes-nobody : (w : ℕ × Reply) (ps : plain.Places) (W : Places) → AreAlike W ps → (o : Option Progress)
      → get W w.0 ≡ o → ((p : Progress) → o ≡ Some p → p.parked ≡ false) → AreAlike (woken_at W w o) ps
  wakes-nobody w ps W alike None is unparked = alike
  wakes-nobody w ps W alike (Some p) is unparked =
      alike-put W ps ps w.0 (after_wake w.1 p) alike
      (place-there W ps w.0 p alike is
      ∙ ap (λ (b : Bool). Some (let r : Progress = (if b then at_place (answered p.place (due p.place) w.1) else p)
      in r.place)) (sym (unparked p refl)))
      (λ q ne. refl)

  one-woken : (w : ℕ × Reply) (m : Option Call) → mark_in k.processes w.0 ≡ m → (ps after : plain.Places)
      → plain.FitsFrom script ps (marked_line node w.0 m w.1) after → OneWoken w ps after
  one-woken w None marked ps after f =
      record {
        due = λ call is. some-isnt-none call (mark_in k.processes w.0) is marked;
        others = λ q ne. ap (λ (x : plain.Places). get x q) (sym f);
        alike = λ W alike parked.
            subst (λ (x : plain.Places). AreAlike (after_woken W w) x) f
            (wakes-nobody w ps W alike (get W w.0) refl (λ p is. parked p is ∙ ap is_some marked));
      }
  one-woken w (Some call) marked ps after f =
      let may : may_park call ≡ true = parks w.0 call marked
      in let place : Place = f.place
      in let is_due : due place ≡ Some call = due-itself place call (waits-kills-nothing call may) f.due
      in let to_place : Place = move_on place call (Some w.1)
      in let is : put ps w.0 to_place ≡ after =
      sym (waits-forks-nothing script (put ps w.0 to_place) place call (Some w.1) may) ∙ f.rest
      in let now : get after w.0 ≡ Some to_place =
      ap (λ (x : plain.Places). get x w.0) (sym is) ∙ get-put-same ps w.0 to_place
      in let others : (q : ℕ) → q ≢ w.0 → get after q ≡ get ps q =
      λ q ne. ap (λ (x : plain.Places). get x q) (sym is) ∙ get-put-other ps w.0 to_place q ne
      in record {
        due = λ other is.
            record {
              place = place;
              there = f.there;
              due = is_due ∙ (sym marked ∙ is);
            };
        others = others;
        alike = λ W alike parked.
            let at : IsAtPlace W w.0 place = at-place W ps w.0 place alike f.there
            in let p : Progress = at.progress
            in let woken : (after_wake w.1 p).place ≡ to_place =
            ap (λ (b : Bool). (let r : Progress = (if b then at_place (answered p.place (due p.place) w.1) else p)
            in r.place)) (parked p at.there ∙ ap is_some marked)
            ∙ (ap (λ (x : Place). answered x (due x) w.1) at.same
            ∙ (ap (λ (o : Option Call). answered place o w.1) is_due
            ∙ sym (moves-by-reply place call (Some w.1) (waits-kills-nothing call may))))
            in subst (λ (o : Option Progress). AreAlike (woken_at W w o) after) (sym at.there)
            (alike-put W ps after w.0 (after_wake w.1 p) alike (now ∙ ap (λ (x : Place). Some x) (sym woken)) others);
      }

  -- what all their lines leave
  record AllWoken (ws : List (ℕ × Reply)) (ps after : plain.Places) : Type 0 where
    due : (q : ℕ) (call : Call) → woken_in q ws ≡ true → mark_in k.processes q ≡ Some call → IsDueAt ps q call
    others : (q : ℕ) → woken_in q ws ≡ false → get after q ≡ get ps q
    alike : (W : Places) → AreAlike W ps
        → ((q : ℕ) (p : Progress) → woken_in q ws ≡ true → get W q ≡ Some p
        → p.parked ≡ is_some (mark_in k.processes q))
        → AreAlike (fold after_woken W ws) after

  not-this : (q n : ℕ) (b : Bool) → (nat_eq q n || b) ≡ false → q ≢ n
  not-this q n b h same = true≢false (sym (ap (λ (t : Bool). t || b) (ap (nat_eq q) (sym same) ∙ eq-same q)) ∙ h)

  not-rest : (a b : Bool) → (a || b) ≡ false → b ≡ false
  not-rest true b h = absurd (true≢false h)
  not-rest false b h = h

  woken-others : (W : Places) (w : ℕ × Reply) (o : Option Progress) (q : ℕ) → q ≢ w.0
      → get (woken_at W w o) q ≡ get W q
  woken-others W w None q ne = refl
  woken-others W w (Some p) q ne = get-put-other W w.0 (after_wake w.1 p) q ne

  all-woken : (ws : List (ℕ × Reply)) → WokenOnce ws → (ps after : plain.Places)
      → plain.FitsFrom script ps (wait_lines k node ws) after → AllWoken ws ps after
  all-woken [] once ps after f =
      record {
        due = λ q call h marked. absurd (false≢true h);
        others = λ q h. ap (λ (x : plain.Places). get x q) (sym f);
        alike = λ W alike parked. subst (λ (x : plain.Places). AreAlike W x) f alike;
      }
  all-woken (w ∷ ws) once ps after f =
      let h : Halves script ps (wait_line k node w) (wait_lines k node ws) after =
      halves script ps after (wait_line k node w) (wait_lines k node ws) f
      in let first : OneWoken w ps h.mid = one-woken w (mark_in k.processes w.0) refl ps h.mid h.first
      in let rest : AllWoken ws h.mid after = all-woken ws once.1 h.mid after h.rest
      in let apart : (q : ℕ) → woken_in q ws ≡ true → q ≢ w.0 =
      λ q is same. true≢false (sym is ∙ (ap (λ (i : ℕ). woken_in i ws) same ∙ once.0))
      in record {
        due = λ q call is marked.
            elim (cases_eq q w.0) [
              | inl same ↦
                  subst (λ (i : ℕ). IsDueAt ps i call) (sym same)
                  (first.due call (ap (λ (i : ℕ). mark_in k.processes i) (sym same) ∙ marked))
              | inr ne ↦
                  due-before ps h.mid q call (first.others q ne)
                  (rest.due q call (sym (ap (λ (b : Bool). b || woken_in q ws) (eq-other q w.0 ne)) ∙ is) marked)
            ];
        others = λ q is.
            rest.others q (not-rest (nat_eq q w.0) (woken_in q ws) is)
            ∙ first.others q (not-this q w.0 (woken_in q ws) is);
        alike = λ W alike parked.
            rest.alike (after_woken W w)
            (first.alike W alike
            (λ p there. parked w.0 p (ap (λ (b : Bool). b || woken_in w.0 ws) (eq-same w.0)) there))
            (λ q p is there.
            parked q p (or-true (nat_eq q w.0) (woken_in q ws) is)
            (sym (woken-others W w (get W w.0) q (apart q is)) ∙ there));
      }

-- ---- the caller

fork-others : (script : Script) (ps : plain.Places) (place : Place) (call : Call) (own : Option Reply) (q : ℕ)
    → ((block child : ℕ) → call ≡ calls.Fork block → own ≡ Some (replies.Num child) → q ≢ child)
    → get (plain.places_after_fork script ps place call own) q ≡ get ps q
fork-others script ps place (calls.Fork block) (Some (replies.Num child)) q apart =
    get-put-other ps child (block_place (block_at script block) (child_vars place)) q (apart block child refl refl)
fork-others script ps place (calls.Fork block) (Some reply) q apart = refl
fork-others script ps place (calls.Fork block) None q apart = refl
fork-others script ps place call own q apart = refl

fork-alike : (script : Script) (W : Places) (ps : plain.Places) (place : Place) (call : Call) (own : Option Reply)
    → AreAlike W ps
    → AreAlike (after_fork script W place call own) (plain.places_after_fork script ps place call own)
fork-alike script W ps place (calls.Fork block) (Some (replies.Num child)) alike =
    let begins : Place = block_place (block_at script block) (child_vars place)
    in alike-put W ps (put ps child begins) child (at_place begins) alike (get-put-same ps child begins)
    (λ q ne. get-put-other ps child begins q ne)
fork-alike script W ps place (calls.Fork block) (Some reply) alike = alike
fork-alike script W ps place (calls.Fork block) None alike = alike
fork-alike script W ps place call own alike = alike

forks-not : (script : Script) (W : Places) (place : Place) (call : Call) → after_fork script W place call None ≡ W
forks-not script W place (calls.Fork block) = refl
forks-not script W place call = refl

own-is : (call : Call) (own : Option Reply) (p : Progress) → withdrawn_from call ≡ None
    → after_entry call own p ≡ after_own p.place call own
own-is (calls.Withdraw name) own p h = some-isnt-none name (Some name) refl h
own-is call own p h = refl

next-is : (p : Progress) (call : Call) → withdrawn_from call ≡ None → p.parked ≡ false → IsDue p.place call
    → IsNext p call
next-is p (calls.Withdraw name) h unparked d = some-isnt-none name (Some name) refl h
next-is p call h unparked d = (unparked, d)

-- behind the own call of an entry that is no withdrawal
abbrev own_places_of : Script → Entry → Option Reply → Places → Place → Places
own_places_of script e own W place = after_fork script (put W e.pid (after_own place e.call own)) place e.call own

-- a process that waits has the mark of its call
record HasMark (m : Option Call) : Type 0 where
  call : Call
  is : m ≡ Some call

has-mark : (m : Option Call) → is_some m ≡ true → HasMark m
has-mark None h = absurd (false≢true h)
has-mark (Some call) h = record { call = call; is = refl }

withdraws : (call : Call) (name : Name) → withdrawn_from call ≡ Some name → call ≡ calls.Withdraw name
withdraws (calls.Withdraw other) name h = ap (λ (n : Name). calls.Withdraw n) (same-some other name h)
withdraws call name h = not_some name h

-- ---- an entry

-- what an entry's lines say, where the calls that wait behind it are due
record EntryFits (script : Script) (k : Kernel) (e : Entry) (ps after : plain.Places) : Type 0 where
  due : AreDue k ps
  place : Place
  there : get ps e.pid ≡ Some place
  next : (p : Progress) → p.place ≡ place → p.parked ≡ is_some (mark_in k.processes e.pid) → IsNext p e.call
  alike : (W : Places) (p : Progress) → AreAlike W ps → Agree W (λ q. mark_in k.processes q)
      → get W e.pid ≡ Some p → AreAlike (places_after script W e p) after

module _ (script : Script) (k : Kernel) (sound : IsReached k) (e : Entry) (next : Kernel)
    (step : transition k e.pid e.call (number_in e.outcome.own) ≡ Some (successor next e.outcome)) where
  fine : Fine k
  fine = sound-fine k sound.sound

  wakes : WakesRightly k e.pid (successor next e.outcome)
  wakes = entry-wakes k fine e.pid e.call (number_in e.outcome.own) (successor next e.outcome) step

  moves : MovesMarks k e.pid e.call (successor next e.outcome)
  moves = entry-moves k fine e.pid e.call (number_in e.outcome.own) (successor next e.outcome) step

  -- the mark of one who isn't the caller, and isn't woken
  stays-marked : (q : ℕ) → q ≢ e.pid → woken_in q e.outcome.woken ≡ false
      → mark_in next.processes q ≡ mark_in k.processes q
  stays-marked q ne unwoken =
      moves q
      ∙ (ap (λ (b : Bool). (if b then own_mark e.call e.outcome.own
      else if woken_in q e.outcome.woken then None else mark_in k.processes q)) (eq-other e.pid q (λ h. ne (sym h)))
      ∙ ap (λ (b : Bool). (if b then None else mark_in k.processes q)) unwoken)

  -- the caller's own line, if it has one, from what is due at the end
  record OwnFits (ps mid : plain.Places) (own : Option Reply) : Type 0 where
    place : Place
    there : get ps e.pid ≡ Some place
    due : IsDue place e.call
    others : (q : ℕ) → q ≢ e.pid → is_some (mark_in k.processes q) ≡ true → get mid q ≡ get ps q
    alike : (W : Places) (p : Progress) → AreAlike W ps → get W e.pid ≡ Some p
        → AreAlike (own_places_of script e own W p.place) mid

  unmarked-child : (q : ℕ) → is_some (mark_in k.processes q) ≡ true → (block child : ℕ) → e.call ≡ calls.Fork block
      → e.outcome.own ≡ Some (replies.Num child) → q ≢ child
  unmarked-child q marked block child is own same =
      true≢false
      (sym marked
      ∙ ap is_some
      (ap (λ (i : ℕ). mark_in k.processes i) same
      ∙ fork-number k e.pid block (number_in e.outcome.own) (successor next e.outcome) child fine
      (subst (λ (c : Call). transition k e.pid c (number_in e.outcome.own) ≡ Some (successor next e.outcome)) is step)
      (ap number_in own)))

  own-parks : (ps : plain.Places) (place : Place) → get ps e.pid ≡ Some place → IsDue place e.call
      → OwnFits ps ps None
  own-parks ps place there is_due =
      record {
        place = place;
        there = there;
        due = is_due;
        others = λ q ne marked. refl;
        alike = λ W p alike at.
            subst (λ (x : Places). AreAlike x ps)
            (sym (forks-not script (put W e.pid (after_own p.place e.call None)) p.place e.call))
            (alike-put W ps ps e.pid (after_own p.place e.call None) alike (place-there W ps e.pid p alike at)
            (λ q ne. refl));
      }

  own-replies : (ps mid : plain.Places) (reply : Reply) → e.outcome.own ≡ Some reply
      → plain.FitsFrom script ps (line_of e.by e.pid e.call reply ∷ []) mid → OwnFits ps mid (Some reply)
  own-replies ps mid reply own f =
      let place : Place = f.place
      in let to_place : Place = move_on place e.call (Some reply)
      in let moved : plain.Places = put ps e.pid to_place
      in record {
        place = place;
        there = f.there;
        due = f.due;
        others = λ q ne marked.
            ap (λ (x : plain.Places). get x q) (sym f.rest)
            ∙ (fork-others script moved place e.call (Some reply) q
            (λ block child is has. unmarked-child q marked block child is (own ∙ has))
            ∙ get-put-other ps e.pid to_place q ne);
        alike = λ W p alike at.
            let same : p.place ≡ place = same-some p.place place (sym (place-there W ps e.pid p alike at) ∙ f.there)
            in subst (λ (x : plain.Places). AreAlike (own_places_of script e (Some reply) W p.place) x) f.rest
            (subst
            (λ (x : Place).
            AreAlike (own_places_of script e (Some reply) W x)
            (plain.places_after_fork script moved place e.call (Some reply)))
            (sym same)
            (fork-alike script (put W e.pid (at_place to_place)) moved place e.call (Some reply)
            (alike-put W ps moved e.pid (at_place to_place) alike (get-put-same ps e.pid to_place)
            (λ q ne. get-put-other ps e.pid to_place q ne))));
      }

  own-fits : (ps mid after : plain.Places) (own : Option Reply) → e.outcome.own ≡ own
      → plain.FitsFrom script ps (own_line e.by e.pid e.call own) mid → get after e.pid ≡ get mid e.pid
      → AreDue next after → OwnFits ps mid own
  own-fits ps mid after (Some reply) own f stays due_behind = own-replies ps mid reply own f
  own-fits ps mid after None own f stays due_behind =
      let waits : mark_in next.processes e.pid ≡ Some e.call =
      moves e.pid
      ∙ (ap (λ (b : Bool). (if b then own_mark e.call e.outcome.own
      else if woken_in e.pid e.outcome.woken then None else mark_in k.processes e.pid)) (eq-same e.pid)
      ∙ ap (own_mark e.call) own)
      in let d : IsDueAt mid e.pid e.call = due-before mid after e.pid e.call stays (due_behind e.pid e.call waits)
      in subst (λ (x : plain.Places). OwnFits ps x None) f
      (own-parks ps d.place (ap (λ (x : plain.Places). get x e.pid) f ∙ d.there) (inl d.due))

  call-fits : withdrawn_from e.call ≡ None → (ps after : plain.Places)
      → plain.FitsFrom script ps (lines_of k e) after → AreDue next after → EntryFits script k e ps after
  call-fits no_withdrawal ps after f due_behind =
      let own : Option Reply = e.outcome.own
      in let ws : List (ℕ × Reply) = e.outcome.woken
      in let h : Halves script ps (own_line e.by e.pid e.call own) (wait_lines k e.by ws) after =
      halves script ps after (own_line e.by e.pid e.call own) (wait_lines k e.by ws)
      (subst (λ (ls : List Entry). plain.FitsFrom script ps ls after) (lines-are k e e.call no_withdrawal) f)
      in let all : AllWoken script k sound.parks e.by ws h.mid after =
      all-woken script k sound.parks e.by ws wakes.once h.mid after h.rest
      in let fits : OwnFits ps h.mid own =
      own-fits ps h.mid after own refl h.first (all.others e.pid wakes.others) due_behind
      in let made : Makes k e.pid e.call (number_in own) (successor next e.outcome) =
      makes k e.pid e.call (number_in own) (successor next e.outcome) no_withdrawal step
      in let unparked : mark_in k.processes e.pid ≡ None =
      no-mark k e.pid made.alive (acts-by k e.pid made.alive e.call made.lives made.may)
      in record {
        due = λ q call marked.
            let ne : q ≢ e.pid =
            λ same.
            some-isnt-none call (mark_in k.processes e.pid) (ap (λ (i : ℕ). mark_in k.processes i) (sym same) ∙ marked)
            unparked
            in due-before ps h.mid q call (fits.others q ne (ap is_some marked))
            (elim (cases_Bool (woken_in q ws)) [
              | inl woken ↦ all.due q call woken marked
              | inr others ↦
                  due-before h.mid after q call (all.others q others)
                  (due_behind q call (stays-marked q ne others ∙ marked))
            ]);
        place = fits.place;
        there = fits.there;
        next = λ p same parked.
            next-is p e.call no_withdrawal (parked ∙ ap is_some unparked)
            (subst (λ (x : Place). IsDue x e.call) (sym same) fits.due);
        alike = λ W p alike agree at.
            all.alike (own_places script W e p)
            (subst (λ (x : Progress). AreAlike (after_fork script (put W e.pid x) p.place e.call own) h.mid)
            (sym (own-is e.call own p no_withdrawal)) (fits.alike W p alike at))
            (λ q r woken there.
            agree-own script k fine e W p next step agree q r there
            ∙ ap (λ (b : Bool). is_some (if b then own_mark e.call own else mark_in k.processes q))
            (eq-other e.pid q
            (λ same. true≢false (sym woken ∙ (ap (λ (i : ℕ). woken_in i ws) (sym same) ∙ wakes.others)))));
      }

  withdrawn-places : (W : Places) (p : Progress) (name : Name) (reply : Reply) → e.call ≡ calls.Withdraw name
      → e.outcome ≡ reply_alone reply → places_after script W e p ≡ put W e.pid (after_wake reply p)
  withdrawn-places W p name reply is outcome =
      ap (λ (c : Call).
      fold after_woken (after_fork script (put W e.pid (after_entry c e.outcome.own p)) p.place c e.outcome.own)
      e.outcome.woken) is
      ∙ ap (λ (o : Outcome).
      fold after_woken
      (after_fork script (put W e.pid (after_entry (calls.Withdraw name) o.own p)) p.place (calls.Withdraw name) o.own)
      o.woken) outcome

  -- who withdraws waits
  withdrawer-waits : (name : Name) (a : Alive) → living_at k e.pid ≡ Some a → may_withdraw e.pid a name ≡ true
      → is_some (mark_in k.processes e.pid) ≡ true
  withdrawer-waits name a lives may =
      ap (λ (o : Option Alive). is_some (mark_of o)) lives ∙ by_mark a.marks.parked (second a.marks.struck _ may)
    where
      by_mark : (m : Option Call) → is_parked_at e.pid name m ≡ true → is_some m ≡ true
      by_mark None h = absurd (false≢true h)
      by_mark (Some call) h = refl

      second : (x y : Bool) → (x && y) ≡ true → y ≡ true
      second true y h = h
      second false y h = absurd (false≢true h)

  withdrawal-fits : (name : Name) → e.call ≡ calls.Withdraw name → (ps after : plain.Places)
      → plain.FitsFrom script ps (lines_of k e) after → AreDue next after → EntryFits script k e ps after
  withdrawal-fits name is ps after f due_behind =
      let l : Leaves k e.pid name (successor next e.outcome) =
      leaves k e.pid name (number_in e.outcome.own) (successor next e.outcome)
      (subst (λ (c : Call). transition k e.pid c (number_in e.outcome.own) ≡ Some (successor next e.outcome)) is step)
      in let reply : Reply = replies.Fail Eintr
      in let outcome : e.outcome ≡ reply_alone reply = sym (ap (λ (s : Successor). s.outcome) l.is)
      in let lines : lines_of k e ≡ wait_line k e.by (e.pid, reply) =
      ap (lines_by k e) is ∙ ap (λ (o : Outcome). withdrawn_line k e.by e.pid o.own) outcome
      in let one : OneWoken script k sound.parks e.by (e.pid, reply) ps after =
      one-woken script k sound.parks e.by (e.pid, reply) (mark_in k.processes e.pid) refl ps after
      (subst (λ (ls : List Entry). plain.FitsFrom script ps ls after) lines f)
      in let waits : is_some (mark_in k.processes e.pid) ≡ true = withdrawer-waits name l.alive l.lives l.may
      in let m : HasMark (mark_in k.processes e.pid) = has-mark (mark_in k.processes e.pid) waits
      in let d : IsDueAt ps e.pid m.call = one.due m.call m.is
      in record {
        due = λ q call marked.
            elim (cases_eq q e.pid) [
              | inl same ↦
                  subst (λ (i : ℕ). IsDueAt ps i call) (sym same)
                  (one.due call (ap (λ (i : ℕ). mark_in k.processes i) (sym same) ∙ marked))
              | inr ne ↦
                  due-before ps after q call (one.others q ne)
                  (due_behind q call
                  (stays-marked q ne (ap (λ (o : Outcome). woken_in q o.woken) outcome) ∙ marked))
            ];
        place = d.place;
        there = d.there;
        next = λ p same parked. subst (λ (c : Call). IsNext p c) (sym is) (parked ∙ waits);
        alike = λ W p alike agree at.
            subst (λ (x : Places). AreAlike x after) (sym (withdrawn-places W p name reply is outcome))
            (subst (λ (o : Option Progress). AreAlike (woken_at W (e.pid, reply) o) after) at
            (one.alike W alike (λ r there. agree e.pid r there)));
      }

  entry-fits : (ps after : plain.Places) → plain.FitsFrom script ps (lines_of k e) after → AreDue next after
      → EntryFits script k e ps after
  entry-fits ps after f due_behind = by_name (withdrawn_from e.call) refl
    where
      by_name : (o : Option Name) → withdrawn_from e.call ≡ o → EntryFits script k e ps after
      by_name None is = call-fits is ps after f due_behind
      by_name (Some name) is = withdrawal-fits name (withdraws e.call name is) ps after f due_behind

-- ---- order

fork-ordered : (script : Script) (W : Places) (place : Place) (call : Call) (own : Option Reply) → IsRising W
    → IsRising (after_fork script W place call own)
fork-ordered script W place (calls.Fork block) (Some (replies.Num child)) r =
    rising-put W child (at_place (block_place (block_at script block) (child_vars place))) r
fork-ordered script W place (calls.Fork block) (Some reply) r = r
fork-ordered script W place (calls.Fork block) None r = r
fork-ordered script W place call own r = r

woken-ordered : (ws : List (ℕ × Reply)) (W : Places) → IsRising W → IsRising (fold after_woken W ws)
woken-ordered [] W r = r
woken-ordered (w ∷ ws) W r = woken-ordered ws (after_woken W w) (by_option (get W w.0))
  where
    by_option : (o : Option Progress) → IsRising (woken_at W w o)
    by_option None = r
    by_option (Some p) = rising-put W w.0 (after_wake w.1 p) r

places-ordered : (script : Script) (W : Places) (e : Entry) (p : Progress) → IsRising W
    → IsRising (places_after script W e p)
places-ordered script W e p r =
    woken-ordered e.outcome.woken (own_places script W e p)
    (fork-ordered script (put W e.pid (after_entry e.call e.outcome.own p)) p.place e.call e.outcome.own
    (rising-put W e.pid (after_entry e.call e.outcome.own p) r))

-- ---- histories

-- the lines of all entries, by the kernels before them
abbrev all_lines : (h : List Entry) (k last : Kernel) → Replays k h last → List Entry
all_lines [] k last r = []
all_lines (e ∷ es) k last r = lines_of k e ++ all_lines es r.next last r.rest

lined-all : (h : List Entry) (k last : Kernel) (l : Lined) (r : Replays k h last) → Fine k → AreMarked k l
    → (line_all l h).lines ≡ l.lines ++ all_lines h k last r
lined-all [] k last l r good marked = append-nothing l.lines
lined-all (e ∷ es) k last l r good marked =
    let on : StepsOn k l e r.next = steps-on k good l marked e r.next r.step
    in lined-all es r.next last (line_entry l e) r.rest
    (entry-fine k good e.pid e.call (number_in e.outcome.own) (successor r.next e.outcome) r.step) on.marked
    ∙ (ap (λ (xs : List Entry). xs ++ all_lines es r.next last r.rest) on.lines
    ∙ append-both l.lines (lines_of k e) (all_lines es r.next last r.rest))

-- from these places the history fits, and leads to ones that are alike
record FitsOn (script : Script) (W : Places) (h : List Entry) (last : Kernel) (final : plain.Places) : Type 0 where
  to : Places
  fits : FitsFrom script W h to
  ordered : IsRising to
  alike : AreAlike to final

record FitsBack (script : Script) (k : Kernel) (h : List Entry) (last : Kernel)
    (ps final : plain.Places) : Type 0 where
  due : AreDue k ps
  fits : (W : Places) → AreAlike W ps → Agree W (λ q. mark_in k.processes q) → IsRising W
      → FitsOn script W h last final

fits-along : (script : Script) (h : List Entry) (k last : Kernel) (r : Replays k h last) → IsReached k
    → (ps final : plain.Places) → plain.FitsFrom script ps (all_lines h k last r) final → AreDue last final
    → FitsBack script k h last ps final
fits-along script [] k last r reached ps final f due_last =
    record {
      due = subst (λ (x : Kernel). AreDue x ps) (sym r) (subst (λ (x : plain.Places). AreDue last x) (sym f) due_last);
      fits = λ W alike agree ordered.
          record { to = W; fits = refl; ordered = ordered; alike = subst (λ (x : plain.Places). AreAlike W x) f alike };
    }
fits-along script (e ∷ es) k last r reached ps final f due_last =
    let s : Successor = successor r.next e.outcome
    in let n : ℕ = number_in e.outcome.own
    in let reached_next : IsReached r.next =
    record {
      sound = entries-keep-soundness k e.pid e.call n s reached.sound r.step;
      parks = entry-waits k reached.sound reached.parks e.pid e.call n s r.step;
    }
    in let h : Halves script ps (lines_of k e) (all_lines es r.next last r.rest) final =
    halves script ps final (lines_of k e) (all_lines es r.next last r.rest) f
    in let back : FitsBack script r.next es last h.mid final =
    fits-along script es r.next last r.rest reached_next h.mid final h.rest due_last
    in let entry : EntryFits script k e ps h.mid =
    entry-fits script k reached e r.next r.step ps h.mid h.first back.due
    in record {
      due = entry.due;
      fits = λ W alike agree ordered.
          let at : IsAtPlace W e.pid entry.place = at-place W ps e.pid entry.place alike entry.there
          in let p : Progress = at.progress
          in let on : FitsOn script (places_after script W e p) es last final =
          back.fits (places_after script W e p) (entry.alike W p alike agree at.there)
          (agree-step script k (sound-fine k reached.sound) e W p r.next r.step agree)
          (places-ordered script W e p ordered)
          in record {
            to = on.to;
            fits =
                record {
                  progress = p;
                  there = at.there;
                  next = entry.next p at.same (agree e.pid p at.there);
                  rest = on.fits;
                };
            ordered = on.ordered;
            alike = on.alike;
          };
    }

-- ---- from the opening

opening-alike-places : (script : Script) → AreAlike (opening_places script) (plain.opening_places script)
opening-alike-places script q =
    let first : Place = block_place (block_at script 1) []
    in elim (cases_eq q 1) [
      | inl same ↦
          ap (option_map place_of) (get-first (1, at_place first) [] q same) ∙ sym (get-first (1, first) [] q same)
      | inr ne ↦
          ap (option_map place_of) (get-later (1, at_place first) [] q ne) ∙ sym (get-later (1, first) [] q ne)
    ]

-- a history whose lines fit the script fits it too, and its places are like those of the lines
pub histories-fit-by-lines : HistoriesFitByLines
histories-fit-by-lines script h k places r f due_last =
    let reached : IsReached opening = opening-reached
    in let lines : in_line h ≡ all_lines h opening k r =
    lined-all h opening k no_lines r opening-fine (λ q. sym (opening-unmarked q))
    in let back : FitsBack script opening h k (plain.opening_places script) places =
    fits-along script h opening k r reached (plain.opening_places script) places
    (subst (λ (ls : List Entry). plain.FitsFrom script (plain.opening_places script) ls places) lines f) due_last
    in let on : FitsOn script (opening_places script) h k places =
    back.fits (opening_places script) (opening-alike-places script) (opening-agree script)
    (rising-put [] 1 (at_place (block_place (block_at script 1) [])) (rising-nothing Progress))
    in record {
      last = on.to;
      fits = on.fits;
      ordered = on.ordered;
      alike = on.alike;
      parked = places-are-marks script h k on.to r on.fits;
    }
