-- The outcomes of several sandboxes: each is one history, and their text is that of their worlds.
use Rattle.std.proofs.Common.{◌≡◌, ◌⊎◌, inl, inr, ℕ, List, [], ◌∷◌, ◌++◌, map, Option, Some, refl, sym, ap, subst, ◌∙◌, append_assoc, append-nil}
use Rattle.std.specs.Prelude.{IfSome, IsSome, None}
use Rattle.std.specs.List.{All, AllByRecursion}
use Rattle.std.proofs.lemmas.List.Elements.{All-head, All-tail}
use Rattle.pico_base.specs.declared.reply.Entry.{Entry}
use Rattle.pico_base.specs.declared.script.Script.{Script}
use Rattle.kernel_model.specs.Script.{IsSoundScript}
use Rattle.world_model.specs.World.{World, opening_world}
use Rattle.sandbox_set.specs.declared.read.Sandbox.{Sandbox}
use Rattle.sandbox_set.specs.Text.{boxes_text, named_trace}
use Rattle.pico_run.specs.declared.rested.Rested.{Rested}
use Rattle.pico_run.specs.Rested.{IsRested}
use Rattle.boxes_run.specs.Runs.{AreRested, scripts_of}
use Rattle.pico_cmd.specs.Boxed.{AreHistories, IsTextOfBoxes, world_text, worlds_text}
use Rattle.pico_cmd.specs.Threads.{entries_in, events_in}
use Rattle.pico_cmd.proofs.Ends.{runs_keep}
use Rattle.pico_cmd.proofs.Histories.{history_of, run_of}
use Rattle.pico_cmd.proofs.RunLaws.{Laws}

-- ---- each outcome is one history

pub histories_of : Laws → (boxes : List Sandbox) (rested : List Rested)
    → All (λ (b : Sandbox). IsSoundScript b.script) boxes → AreRested (scripts_of boxes) rested
    → AreHistories (scripts_of boxes) rested
histories_of laws [] [] sound h = tt
histories_of laws [] (r ∷ rested) sound h = h
histories_of laws (b ∷ boxes) [] sound h = h
histories_of laws (b ∷ boxes) (r ∷ rested) sound h = (
  history_of laws b.script r (All-head (λ (x : Sandbox). IsSoundScript x.script) b boxes sound) h.0,
  histories_of laws boxes rested (All-tail (λ (x : Sandbox). IsSoundScript x.script) b boxes sound) h.1,
)

-- each has its world
pub worlds-are-there : (scripts : List Script) (rested : List Rested) → AreRested scripts rested
    → AllByRecursion (λ (r : Rested). IsSome r.world) rested
worlds-are-there [] [] h = tt
worlds-are-there [] (r ∷ rested) h = absurd h
worlds-are-there (script ∷ scripts) [] h = tt
worlds-are-there (script ∷ scripts) (r ∷ rested) h = (
  subst (λ (o : Option World). IsSome o) (sym h.0.is_world) refl,
  worlds-are-there scripts rested h.1,
)

-- ---- the text of worlds

-- one world's is added
pub added : (out new name : List ℕ) (script : Script) (journal : List Entry) (world : Option World) → IsSome world
    → IfSome world (λ w. script ≡ w.script) → IfSome world (λ w. journal ≡ w.journal)
    → new ≡ out ++ named_trace name script journal → new ≡ out ++ world_text name world
added out new name script journal None there same_script same_journal is = absurd (let f : ⊥ = cc in f)
added out new name script journal (Some w) there same_script same_journal is =
    is
    ∙ ap (λ (s : Script). out ++ named_trace name s journal) same_script
    ∙ ap (λ (es : List Entry). out ++ named_trace name w.script es) same_journal

-- of one more
worlds_more : (name : List ℕ) (names : List (List ℕ)) (r : Rested) (rested : List Rested)
    → worlds_text (name ∷ names) (r ∷ rested) ≡ world_text name r.world ++ worlds_text names rested
unfolding worlds_text
worlds_more name names r rested = refl

-- of none
worlds_none : (names : List (List ℕ)) (rested : List Rested) → (names ≡ []) ⊎ (rested ≡ [])
    → worlds_text names rested ≡ []
unfolding worlds_text
worlds_none names rested (inl e) = rw e refl
worlds_none [] rested (inr e) = refl
worlds_none (name ∷ names) rested (inr e) = rw e refl

-- the text of some, and that of those that are left
pub record AreTold (out : List ℕ) (names : List (List ℕ)) (rested : List Rested) (whole : List ℕ) : Type 0 where
  pub so_far : out ++ worlds_text names rested ≡ whole
  pub there : AllByRecursion (λ (r : Rested). IsSome r.world) rested

-- behind one more
pub told_more : (out next : List ℕ) (names left_names : List (List ℕ)) (rested left : List Rested) (whole : List ℕ)
    (name : List ℕ) (r : Rested) → AreTold out names rested whole → names ≡ name ∷ left_names → rested ≡ r ∷ left
    → next ≡ out ++ world_text name r.world → AreTold next left_names left whole
told_more out next names left_names rested left whole name r h first second with_it =
    record {
      so_far =
          ap (λ xs. xs ++ worlds_text left_names left) with_it
          ∙ append_assoc out (world_text name r.world) (worlds_text left_names left)
          ∙ ap (λ xs. out ++ xs) (sym (worlds_more name left_names r left))
          ∙ ap (λ xs. out ++ worlds_text xs (r ∷ left)) (sym first)
          ∙ ap (λ xs. out ++ worlds_text names xs) (sym second)
          ∙ h.so_far;
      there = (subst (λ (xs : List Rested). AllByRecursion (λ (x : Rested). IsSome x.world) xs) second h.there).1;
    }

-- the next one has its world
pub told_there : (out : List ℕ) (names : List (List ℕ)) (rested left : List Rested) (whole : List ℕ) (r : Rested)
    → AreTold out names rested whole → rested ≡ r ∷ left → IsSome r.world
told_there out names rested left whole r h is =
    (subst (λ (xs : List Rested). AllByRecursion (λ (x : Rested). IsSome x.world) xs) is h.there).0

-- behind the last
pub told_end : (out : List ℕ) (names : List (List ℕ)) (rested : List Rested) (whole : List ℕ)
    → AreTold out names rested whole → (names ≡ []) ⊎ (rested ≡ []) → out ≡ whole
told_end out names rested whole h none =
    sym (append-nil out) ∙ ap (λ xs. out ++ xs) (sym (worlds_none names rested none)) ∙ h.so_far

-- ---- the text of histories

-- a world's text is that of its sandbox
one_text : (name : List ℕ) (script : Script) (r : Rested) → IsRested script r
    → world_text name r.world ≡ named_trace name script (entries_in r)
one_text name script r k =
    ap (λ (o : Option World). world_text name o) k.is_world
    ∙ ap (λ (s : Script). named_trace name s k.world.journal)
    (runs_keep (opening_world script) k.world (events_in r) (run_of script r k))
    ∙ ap (λ (es : List Entry). named_trace name script es) (sym k.entries)

-- so the worlds' text is that of the sandboxes
worlds_are_boxes : (boxes : List Sandbox) (rested : List Rested) → AreRested (scripts_of boxes) rested
    → worlds_text (map (λ (b : Sandbox). b.name) boxes) rested ≡ boxes_text boxes (map entries_in rested)
unfolding worlds_text boxes_text
worlds_are_boxes [] [] h = refl
worlds_are_boxes [] (r ∷ rested) h = absurd h
worlds_are_boxes (b ∷ boxes) [] h = absurd h
worlds_are_boxes (b ∷ boxes) (r ∷ rested) h =
    ap (λ (xs : List ℕ). xs ++ worlds_text (map (λ (x : Sandbox). x.name) boxes) rested)
    (one_text b.name b.script r h.0)
    ∙ ap (λ (xs : List ℕ). named_trace b.name b.script (entries_in r) ++ xs) (worlds_are_boxes boxes rested h.1)

-- The text of the worlds is that of the sandboxes, each with its history.
pub text_of_boxes : Laws → (boxes : List Sandbox) (rested : List Rested) (names : List (List ℕ)) (text : List ℕ)
    → All (λ (b : Sandbox). IsSoundScript b.script) boxes → AreRested (scripts_of boxes) rested
    → names ≡ map (λ (b : Sandbox). b.name) boxes → text ≡ worlds_text names rested → IsTextOfBoxes boxes text rested
text_of_boxes laws boxes rested names text sound h named is =
    record {
      histories = histories_of laws boxes rested sound h;
      is_text = is ∙ ap (λ (ns : List (List ℕ)). worlds_text ns rested) named ∙ worlds_are_boxes boxes rested h;
    }
