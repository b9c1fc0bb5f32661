-- A body that is put back as it was leaves each name as it was.
use Rattle.std.proofs.Common.{◌≡◌, ◌≢◌, ◌∙◌, ℕ, Bool, true, false, nat_eq, [], ◌∷◌, Some, None, Result, Ok, Err, OnErr, refl, sym, ap, subst, arith, Ordering}
use Rattle.pico_base.specs.declared.numbers.Name.{Name}
use Rattle.pico_base.specs.declared.numbers.Name.TheVariants.{Proc, Msg, Sem}
use Rattle.std.specs.declared.cmp.Ordering.TheVariants.{Less, Equal, Greater}
use Rattle.std.specs.Map.{keys_of}
use Rattle.std.specs.Ordering.{nat_cmp, match_ordering}
use Rattle.std.proofs.lemmas.Map.Keys.{sorted_tail}
use Rattle.number_maps.specs.Maps.{Numbered, get, put}
use Rattle.number_maps.specs.Rising.{IsRising}
use Rattle.number_maps.proofs.Changes.{less-none}
use Rattle.deed_box.specs.Deeds.{AreRising}
use Rattle.number_maps.proofs.LookUps.{get-put-same, get-put-other}
use Rattle.waiting_model.specs.declared.callers.Waiting.{Waiting}
use Rattle.node_model.specs.Kinds.{Named, get_named, put_named}
use Rattle.node_serve.specs.declared.body.Body.{Body}
use Rattle.node_serve.specs.declared.serving.Served.{Served}
use Rattle.node_serve.specs.declared.serving.Served.TheVariants.{Did, NotAdmitted, NotHeld}
use Rattle.node_serve.specs.Serving.{AreSame, ComesTo, ServesName}

same_number : (n m : ℕ) → nat_eq n m ≡ true → n ≡ m
same_number n m h = grind arith

other_number : (n m : ℕ) → nat_eq n m ≡ false → n ≢ m
other_number n m h = grind arith

put_back : (m : Numbered Body) (k : ℕ) (b : Body) (q : ℕ) → get m k ≡ Some b → get (put m k b) q ≡ get m q
put_back m k b q there = by (nat_eq q k) refl
  where
    by : (t : Bool) → nat_eq q k ≡ t → get (put m k b) q ≡ get m q
    by true is =
        let same : q ≡ k = same_number q k is
        in subst (λ (x : ℕ). get (put m k b) x ≡ get m x) (sym same) (get-put-same m k b ∙ sym there)
    by false is = get-put-other m k b q (other_number q k is)

kept_at : (m : Named Body) (name : Name) (b : Body) → get_named m name ≡ Some b → AreSame m (put_named m name b)
kept_at m (Proc p) b there (Proc q) = put_back m.processes p b q there
kept_at m (Proc p) b there (Msg q) = refl
kept_at m (Proc p) b there (Sem q) = refl
kept_at m (Msg p) b there (Proc q) = refl
kept_at m (Msg p) b there (Msg q) = put_back m.queues p b q there
kept_at m (Msg p) b there (Sem q) = refl
kept_at m (Sem p) b there (Proc q) = refl
kept_at m (Sem p) b there (Msg q) = refl
kept_at m (Sem p) b there (Sem q) = put_back m.sets p b q there

-- ---- a body that is put back where numbers rise

unchanged : (k : ℕ) (b : Body) (e : ℕ × Body) (es rest : Numbered Body) (o : Ordering) → nat_cmp k e.0 ≡ o
    → IsRising (e ∷ es) → get (e ∷ es) k ≡ Some b → (get es k ≡ Some b → rest ≡ es)
    → match_ordering o ((k, b) ∷ e ∷ es) ((e.0, b) ∷ es) (e ∷ rest) ≡ e ∷ es
unchanged k b e es rest Less h rising there rec =
    let none : get (e ∷ es) k ≡ None = less-none k e es rising h in absurd (cc)
unchanged k b e es rest Equal h rising there rec =
    let same : e.1 ≡ b = let found : Some e.1 ≡ Some b = rw h at there in cc
    in ap (λ (x : Body). (e.0, x) ∷ es) (sym same)
unchanged k b e es rest Greater h rising there rec =
    let later : get es k ≡ Some b = rw h at there in ap (λ (xs : Numbered Body). e ∷ xs) (rec later)

same-put : (m : Numbered Body) (k : ℕ) (b : Body) → IsRising m → get m k ≡ Some b → put m k b ≡ m
same-put [] k b rising there = absurd (cc)
same-put (e ∷ es) k b rising there =
    unchanged k b e es (put es k b) (nat_cmp k e.0) refl rising there
    (same-put es k b (sorted_tail nat_cmp e.0 (keys_of es) rising))

-- the deeds are as they were
pub put-again : (m : Named Body) (name : Name) (b : Body) → AreRising m → get_named m name ≡ Some b
    → put_named m name b ≡ m
put-again m (Proc p) b rising there =
    ap (λ (bodies : Numbered Body). record m { processes = bodies }) (same-put m.processes p b rising.processes there)
put-again m (Msg p) b rising there =
    ap (λ (bodies : Numbered Body). record m { queues = bodies }) (same-put m.queues p b rising.queues there)
put-again m (Sem p) b rising there =
    ap (λ (bodies : Numbered Body). record m { sets = bodies }) (same-put m.sets p b rising.sets there)

-- after a failure, putting back an unchanged body leaves each name the body that it had
pub kept-as-before : {X E : Type 0} (r : Result X E) (m : Named Body) (name : Name) (old new : Body)
    → get_named m name ≡ Some old → new ≡ old
    → OnErr r (AreSame m (put_named m name new))
kept-as-before (Ok x) m name old new there is = tt
kept-as-before (Err e) m name old new there is =
    subst (λ (b : Body). AreSame m (put_named m name b)) (sym is) (kept_at m name old there)

-- what comes of a call on the body of a name that is held
pub comes-serves : (old : Named Body) (name : Name) (who : Waiting) (body left : Body) (s : Served) → AreRising old
    → get_named old name ≡ Some body → ComesTo name body who left s
    → ServesName old name who (put_named old name left) s
comes-serves old name who body left (Did own wakes reads readers) rising held comes =
    record { body = body; left = left; held = held; does = comes; after = refl }
comes-serves old name who body left NotAdmitted rising held comes = (
  record { body = body; held = held; refuses = comes.0 },
  ap (put_named old name) comes.1 ∙ put-again old name body rising held,
)
comes-serves old name who body left NotHeld rising held comes = absurd comes
