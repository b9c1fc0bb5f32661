-- Who lists and who keeps whom, over what the map of processes has at each number; and what of it each change
-- of the map keeps.
use Rattle.std.proofs.Common.{◌≡◌, ◌≢◌, ℕ, true, Option, Some, None, sym, subst, ◌∙◌, inl, inr, ◌⊎◌}
use Rattle.std.specs.Prelude.{Contains}
use Rattle.pico_base.specs.declared.reply.Ending.{Ending}
use Rattle.kernel_model.specs.Row.{Alive, lists, ended_child}
use Rattle.kernel_model.specs.Kernel.{Process, Living, Ended, Gone}
use Rattle.kernel_laws.proofs.Plain.{from_some, not_some}

-- processes by number, as a function
abbrev pub Map : Type 0
Map = ℕ → Option Process

pub record Lists (f : Map) (p child : ℕ) : Type 0 where
  pub alive : Alive
  pub there : f p ≡ Some (Living alive)
  pub listed : lists alive.row.family child ≡ true

pub record KeepsEnded (f : Map) (p child : ℕ) (ending : Ending) : Type 0 where
  pub alive : Alive
  pub there : f p ≡ Some (Living alive)
  pub kept : Contains alive.row.family.ended (ended_child child ending)

pub record IsLiving (f : Map) (p : ℕ) : Type 0 where
  pub alive : Alive
  pub there : f p ≡ Some (Living alive)

pub record Families (f : Map) : Type 0 where
  pub living : (p c : ℕ) → Lists f p c → IsLiving f c
  pub ended : (p c : ℕ) (e : Ending) → KeepsEnded f p c e → f c ≡ Some (Ended e)
  pub one_parent : (p q c : ℕ) → Lists f p c → Lists f q c → p ≡ q
  pub one_keeper : (p q c : ℕ) (d e : Ending) → KeepsEnded f p c d → KeepsEnded f q c e → p ≡ q
  pub kept : (c : ℕ) (e : Ending) → f c ≡ Some (Ended e) → (p : ℕ) × KeepsEnded f p c e
  pub alone : (p : ℕ) → Lists f p p → ⊥

-- a process is in one state
pub living-ended : {B : Type 0} (a : Alive) (e : Ending) → Living a ≡ Ended e → B
living-ended a e h = cc

-- a process that lives isn't Gone
pub living-gone : {B : Type 0} (a : Alive) → Living a ≡ Gone → B
living-gone a h = cc

-- a process that has ended and is kept isn't Gone
pub ended-gone : {B : Type 0} (e : Ending) → Ended e ≡ Gone → B
ended-gone e h = cc

-- a living process is one
pub same-alive : (a b : Alive) → Living a ≡ Living b → a ≡ b
same-alive a b h = cc

-- an ending is one
pub same-ending : (d e : Ending) → Ended d ≡ Ended e → d ≡ e
same-ending d e h = cc

-- what one number has, twice
pub at-once : (o : Option Process) (a b : Process) → o ≡ Some a → o ≡ Some b → a ≡ b
at-once o a b h g = from_some a b (sym h ∙ g)

-- The families are as before, but for ended children of which N doesn't hold: no one keeps them any more.
pub record Kept (f g : Map) (N : ℕ → Type 0) : Type 0 where
  pub lists_back : (p c : ℕ) → Lists g p c → Lists f p c
  pub keeps_back : (p c : ℕ) (e : Ending) → KeepsEnded g p c e → KeepsEnded f p c e × N c
  pub keeps_on : (p c : ℕ) (e : Ending) → KeepsEnded f p c e → N c → KeepsEnded g p c e
  pub lives_on : (c : ℕ) → IsLiving f c → IsLiving g c
  pub ended_back : (c : ℕ) (e : Ending) → g c ≡ Some (Ended e) → (f c ≡ Some (Ended e)) × N c
  pub ended_on : (c : ℕ) (e : Ending) → f c ≡ Some (Ended e) → N c → g c ≡ Some (Ended e)

-- families stay in order where no one is born and no one ends
pub families-kept : (f g : Map) (N : ℕ → Type 0) → Families f → Kept f g N → Families g
families-kept f g N h k =
    record {
      living = λ p c l. k.lives_on c (h.living p c (k.lists_back p c l));
      ended = λ p c e l. let b = k.keeps_back p c e l in k.ended_on c e (h.ended p c e b.0) b.1;
      one_parent = λ p q c l m. h.one_parent p q c (k.lists_back p c l) (k.lists_back q c m);
      one_keeper = λ p q c d e l m. h.one_keeper p q c d e (k.keeps_back p c d l).0 (k.keeps_back q c e m).0;
      kept = λ c e l.
          let b = k.ended_back c e l
          in let w = h.kept c e b.0
          in (w.0, k.keeps_on w.0 c e w.1 b.1);
      alone = λ p l. h.alone p (k.lists_back p p l);
    }

-- A process has a new child, at a number where there was nothing.
pub record Born (f g : Map) (pid n : ℕ) : Type 0 where
  pub parent : IsLiving f pid
  pub absent : f n ≡ None
  pub lists_back : (p c : ℕ) → Lists g p c → Lists f p c ⊎ ((p ≡ pid) × (c ≡ n))
  pub keeps_back : (p c : ℕ) (e : Ending) → KeepsEnded g p c e → KeepsEnded f p c e
  pub keeps_on : (p c : ℕ) (e : Ending) → KeepsEnded f p c e → KeepsEnded g p c e
  pub lives_on : (c : ℕ) → IsLiving f c → IsLiving g c
  pub lives_new : IsLiving g n
  pub ended_back : (c : ℕ) (e : Ending) → g c ≡ Some (Ended e) → f c ≡ Some (Ended e)
  pub ended_on : (c : ℕ) (e : Ending) → f c ≡ Some (Ended e) → g c ≡ Some (Ended e)

nobody : (f : Map) (n : ℕ) → f n ≡ None → IsLiving f n → ⊥
nobody f n h l = not_some {B = ⊥} (Living l.alive) (sym h ∙ l.there)

born-one_parent : (f g : Map) (pid n : ℕ) → Families f → Born f g pid n → (p q c : ℕ) → Lists g p c → Lists g q c
    → p ≡ q
born-one_parent f g pid n h b p q c l m =
    elim (b.lists_back p c l) [
      | inl old ↦
          elim (b.lists_back q c m) [
            | inl older ↦ h.one_parent p q c old older
            | inr new ↦ absurd (nobody f n b.absent (subst (λ (x : ℕ). IsLiving f x) new.1 (h.living p c old)))
          ]
      | inr new ↦
          elim (b.lists_back q c m) [
            | inl old ↦ absurd (nobody f n b.absent (subst (λ (x : ℕ). IsLiving f x) new.1 (h.living q c old)))
            | inr newer ↦ new.0 ∙ sym newer.0
          ]
    ]

-- families stay in order at a fork
pub families-born : (f g : Map) (pid n : ℕ) → Families f → Born f g pid n → Families g
families-born f g pid n h b =
    record {
      living = λ p c l.
          elim (b.lists_back p c l) [
            | inl old ↦ b.lives_on c (h.living p c old)
            | inr new ↦ subst (λ (x : ℕ). IsLiving g x) (sym new.1) b.lives_new
          ];
      ended = λ p c e l. b.ended_on c e (h.ended p c e (b.keeps_back p c e l));
      one_parent = born-one_parent f g pid n h b;
      one_keeper = λ p q c d e l m. h.one_keeper p q c d e (b.keeps_back p c d l) (b.keeps_back q c e m);
      kept = λ c e l. let w = h.kept c e (b.ended_back c e l) in (w.0, b.keeps_on w.0 c e w.1);
      alone = λ p l.
          elim (b.lists_back p p l) [
            | inl old ↦ h.alone p old
            | inr new ↦ nobody f n b.absent (subst (λ (x : ℕ). IsLiving f x) (sym new.0 ∙ new.1) b.parent)
          ];
    }

-- A process has ended. It is no one's child and no one's parent any more; it may be kept, by one process.
pub record Over (f g : Map) (pid keeper : ℕ) : Type 0 where
  pub lists_back : (p c : ℕ) → Lists g p c → Lists f p c × (c ≢ pid)
  pub keeps_back : (p c : ℕ) (e : Ending) → KeepsEnded g p c e → (KeepsEnded f p c e × (p ≢ pid))
      ⊎ ((p ≡ keeper) × (c ≡ pid) × (g c ≡ Some (Ended e)))
  pub keeps_on : (p c : ℕ) (e : Ending) → KeepsEnded f p c e → p ≢ pid → KeepsEnded g p c e
  pub lives_before : IsLiving f pid
  pub lives_on : (c : ℕ) → IsLiving f c → c ≢ pid → IsLiving g c
  pub ended_back : (c : ℕ) (e : Ending) → g c ≡ Some (Ended e) → KeepsEnded g keeper c e
      ⊎ ((f c ≡ Some (Ended e)) × (KeepsEnded f pid c e → ⊥))
  pub ended_on : (p c : ℕ) (e : Ending) → KeepsEnded f p c e → p ≢ pid → g c ≡ Some (Ended e)

-- who lives has no ending that someone keeps
not-kept : (f : Map) (pid : ℕ) → Families f → IsLiving f pid → (p : ℕ) (e : Ending) → KeepsEnded f p pid e → ⊥
not-kept f pid h l p e k =
    living-ended {B = ⊥} l.alive e (at-once (f pid) (Living l.alive) (Ended e) l.there (h.ended p pid e k))

over-one_keeper : (f g : Map) (pid keeper : ℕ) → Families f → Over f g pid keeper → (p q c : ℕ) (d e : Ending)
    → KeepsEnded g p c d → KeepsEnded g q c e → p ≡ q
over-one_keeper f g pid keeper h o p q c d e l m =
    elim (o.keeps_back p c d l) [
      | inl old ↦
          elim (o.keeps_back q c e m) [
            | inl older ↦ h.one_keeper p q c d e old.0 older.0
            | inr new ↦ absurd (not-kept f pid h o.lives_before p d (subst (λ (x : ℕ). KeepsEnded f p x d) new.1 old.0))
          ]
      | inr new ↦
          elim (o.keeps_back q c e m) [
            | inl old ↦ absurd (not-kept f pid h o.lives_before q e (subst (λ (x : ℕ). KeepsEnded f q x e) new.1 old.0))
            | inr newer ↦ new.0 ∙ sym newer.0
          ]
    ]

over-kept : (f g : Map) (pid keeper : ℕ) → Families f → Over f g pid keeper → (c : ℕ) (e : Ending)
    → g c ≡ Some (Ended e) → (p : ℕ) × KeepsEnded g p c e
over-kept f g pid keeper h o c e l =
    elim (o.ended_back c e l) [
      | inl new ↦ (keeper, new)
      | inr old ↦
          let w = h.kept c e old.0
          in (w.0, o.keeps_on w.0 c e w.1 (λ same. old.1 (subst (λ (x : ℕ). KeepsEnded f x c e) same w.1)))
    ]

-- families stay in order at an end
pub families-over : (f g : Map) (pid keeper : ℕ) → Families f → Over f g pid keeper → Families g
families-over f g pid keeper h o =
    record {
      living = λ p c l. let b = o.lists_back p c l in o.lives_on c (h.living p c b.0) b.1;
      ended = λ p c e l.
          elim (o.keeps_back p c e l) [
            | inl old ↦ o.ended_on p c e old.0 old.1
            | inr new ↦ new.2
          ];
      one_parent = λ p q c l m. h.one_parent p q c (o.lists_back p c l).0 (o.lists_back q c m).0;
      one_keeper = over-one_keeper f g pid keeper h o;
      kept = over-kept f g pid keeper h o;
      alone = λ p l. h.alone p (o.lists_back p p l).0;
    }
