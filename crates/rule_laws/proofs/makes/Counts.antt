-- The numbers of each kind after a call has taken one: the number is used, and there are still as few ranges.
use Rattle.std.proofs.Common.{◌≡◌, ◌≢◌, ◌⊎◌, ℕ, ◌+◌, ◌≤◌, Bool, true, false, ◌&&◌, ◌||◌, if◌then◌else◌, List, [], ◌∷◌, ◌++◌, length, flat_map, nat_eq, sum_by, Some, refl, ap, sym, subst, ◌∙◌, inl, inr, arith, length-append}
use Rattle.std.specs.List.{AllByRecursion}
use Rattle.std.proofs.lemmas.Bool.{cases_eq, eq-eqb, ne_eqb, false≢true}
use Rattle.pico_base.specs.declared.call.Call.{Call}
use Rattle.pico_base.specs.declared.numbers.Kind.{Kind}
use Rattle.pico_base.specs.declared.numbers.Name.{Name}
use Rattle.pico_base.specs.declared.reply.Entry.{Entry}
use Rattle.pico_base.specs.declared.reply.Reply.{Reply}
use Rattle.pico_base.specs.declared.script.Event.{Event}
use Rattle.pico_base.specs.declared.script.Script.{Script}
use Rattle.rpc_frame.specs.declared.frame.Frame.{Frame}
use Rattle.number_maps.specs.Maps.{is_used}
use Rattle.kernel_model.specs.Footprint.{used_of}
use Rattle.kernel_model.specs.Kernel.{Kernel}
use Rattle.entry_laws.specs.Entering.{Enters}
use Rattle.entry_laws.proofs.Numbers.{used-at}
use Rattle.node_model.specs.Directory.{Directory}
use Rattle.node_model.specs.Kinds.{for_kind, is_same_kind, kind_of, number_of, with_kind}
use Rattle.world_model.specs.Node.{Node}
use Rattle.world_model.specs.World.{World, node_count, numbers as numbers_from}
use Rattle.world_laws.specs.Places.{Beside, CallPlace, Idle}
use Rattle.world_laws.specs.Sights.{directory_of, frames_to, is_born_in, node_of}
use Rattle.world_laws.specs.Invariant.{Holds}
use Rattle.world_laws.specs.Ranges.{FewRanges, KindHolds, KindSight, first_if, has_lease, kind_sight, lease_at, lease_in, leases_on_way, one_for}
use Rattle.world_laws.proofs.Changes.{Changes, flat_map-is-list-map, only-stayed}
use Rattle.world_laws.proofs.Frames.{all-weaker, no-lease}
use Rattle.world_laws.proofs.LeftAlone.{kind-left-alone}
use Rattle.world_laws.proofs.NewRanges.{no-lease-about}
use Rattle.world_laws.proofs.Stays.{IsMore, kind-stays}
use Rattle.world_laws.proofs.Steps.{taken-not-to}
use Rattle.rule_laws.proofs.own.NewNumbers.{kind-taken, taken-at}
use Rattle.rule_laws.proofs.own.Objects.{for-other, for-with, kind-is, kind-itself}
use Rattle.rule_laws.proofs.makes.Ready.{calls-now, left-alone, others-same}
use Rattle.rule_laws.proofs.makes.Sources.{Comes, InLease, Next, Origin, Source, directory_by, ready_kind, takes_by}

-- two kinds are two either way
kind-turned : (a c : Kind) → is_same_kind a c ≡ false → is_same_kind c a ≡ false
kind-turned a c h = by-test (is_same_kind c a) refl
  where
    by-test : (t : Bool) → is_same_kind c a ≡ t → is_same_kind c a ≡ false
    by-test false e = e
    by-test true e =
        absurd
        (false≢true
        (sym h ∙ subst (λ y. is_same_kind a y ≡ true) (sym (kind-is c a e)) (kind-itself a)))

-- the ranges of another kind
other-ranges : (d : Directory) (kind y : Kind) (o : Origin) → is_same_kind kind y ≡ false
    → for_kind (directory_by d kind o).ranges y ≡ for_kind d.ranges y
other-ranges d kind y InLease e = refl
other-ranges d kind y (Comes first) e = refl
other-ranges d kind y Next e = for-other d.ranges kind y (for_kind d.ranges kind ++ 1 ∷ []) e

-- what came were no numbers of another kind
other-leases : (kind y : Kind) (o : Origin) → is_same_kind y kind ≡ false
    → AllByRecursion (λ s. lease_in y s.1 ≡ []) (takes_by kind o)
other-leases kind y InLease e = tt
other-leases kind y (Comes first) e = (ap (λ t. first_if t first) e, tt)
other-leases kind y Next e = tt

module _ (script : Script) (w : World) (b : Beside) (holds : Holds script w [] b) (p : ℕ) (call : Call) (kind : Kind)
    (number : ℕ) (numbers : List ℕ) (o : Origin) (e : Event) (s : Source script w b p call kind number numbers o e)
    (next : World) (n : Node) (sends : List (ℕ × Frame)) (entry : Entry)
    (c : Changes script p w next n (takes_by kind o) sends (entry ∷ [])) where
  abbrev d : Directory
  d = directory_of w

  abbrev mid : Directory
  mid = directory_by d kind o

  abbrev k : Kernel
  k = b.kernel

  abbrev x : KindSight
  x = ready_kind (kind_sight w k kind) p (number ∷ numbers) (for_kind mid.ranges kind)

  lease : x.leases p ≡ number ∷ numbers
  lease = ap (λ t. if t then number ∷ numbers else lease_at w kind p) (eq-eqb p p refl)

  none-coming : x.coming p ≡ []
  none-coming = ap (λ t. if t then [] else flat_map (lease_in kind) (frames_to w p 1)) (eq-eqb p p refl)

  abbrev y : KindSight
  y = taken-at x p number numbers

  taken-holds : KindHolds (is_born_in w) y
  taken-holds = kind-taken (is_born_in w) x s.ready p s.low number numbers lease none-coming

  coming-now : ((z : Kind) → AllByRecursion (λ s. lease_in z s.1 ≡ []) sends) → (q : ℕ)
      → (if nat_eq q p then [] else flat_map (lease_in kind) (frames_to w q 1))
      ≡ flat_map (lease_in kind) (frames_to next q 1)
  coming-now none q =
      at-node (cases_eq q p)
      ∙ sym (only-stayed script p w next n (takes_by kind o) sends (entry ∷ []) c
      (λ t z fs. flat_map (lease_in kind) fs) (λ t z. flat_map-is-list-map (lease_in kind))
      (all-weaker (λ s. no-lease kind s.1) sends (none kind)) q 1)
    where
      at-node : (q ≡ p) ⊎ (q ≢ p) → (if nat_eq q p then [] else flat_map (lease_in kind) (frames_to w q 1))
          ≡ flat_map (lease_in kind) (c.left q 1)
      at-node (inl g) =
          subst (λ z. (if nat_eq z p then [] else flat_map (lease_in kind) (frames_to w z 1))
          ≡ flat_map (lease_in kind) (c.left z 1)) (sym g)
          (none-coming
          ∙ sym (no-lease-about kind p (c.left p 1)
          (left-alone script w b holds p call kind number numbers o e s next n sends (entry ∷ []) c p 1)))
      at-node (inr other) =
          ap (λ t. if t then [] else flat_map (lease_in kind) (frames_to w q 1)) (ne_eqb q p other)
          ∙ ap (flat_map (lease_in kind))
          (c.before q 1 ∙ ap (λ fs. fs ++ c.left q 1) (taken-not-to p q 1 (takes_by kind o) other))

  leases-now : n.leases ≡ with_kind (node_of w p).leases kind numbers → (q : ℕ)
      → (if nat_eq q p then numbers else x.leases q) ≡ lease_at next kind q
  leases-now is q =
      elim (cases_eq q p) [
        | inl g ↦
            subst (λ z. (if nat_eq z p then numbers else x.leases z) ≡ lease_at next kind z) (sym g)
            (ap (λ t. if t then numbers else x.leases p) (eq-eqb p p refl)
            ∙ sym (ap (λ (m : Node). for_kind m.leases kind) c.here ∙ ap (λ ls. for_kind ls kind) is
            ∙ for-with (node_of w p).leases kind numbers))
        | inr other ↦
            ap (λ t. if t then numbers else (if t then number ∷ numbers else lease_at w kind q)) (ne_eqb q p other)
            ∙ sym (ap (λ (m : Node). for_kind m.leases kind) (c.others q other))
      ]

  module _ (name : Name) (after : Kernel) (reply : Reply) (enters : Enters k (b.pids p) call reply (Some name) after)
      (kind_is : kind_of name ≡ kind) (number_is : number_of name ≡ number) where
    used-now : (z : Kind) (m : ℕ)
        → is_used (used_of after z) m ≡ ((is_same_kind kind z && nat_eq m number) || is_used (used_of k z) m)
    used-now z m =
        used-at k (b.pids p) call reply (Some name) after enters z m
        ∙ ap (λ a. (is_same_kind a z && nat_eq m (number_of name)) || is_used (used_of k z) m) kind_is
        ∙ ap (λ a. (is_same_kind kind z && nat_eq m a) || is_used (used_of k z) m) number_is

    -- the numbers hold of each kind
    pub kinds-now : IsMore (is_born_in w) (is_born_in next) → n.leases ≡ with_kind (node_of w p).leases kind numbers
        → ((z : Kind) → for_kind (directory_of next).ranges z ≡ for_kind mid.ranges z)
        → ((z : Kind) → AllByRecursion (λ s. lease_in z s.1 ≡ []) sends)
        → (z : Kind) → KindHolds (is_born_in next) (kind_sight next after z)
    kinds-now more leases ranges none z = by-test (is_same_kind kind z) refl
      where
        by-test : (t : Bool) → is_same_kind kind z ≡ t → KindHolds (is_born_in next) (kind_sight next after z)
        by-test true g =
            subst (λ a. KindHolds (is_born_in next) (kind_sight next after a)) (kind-is kind z g)
            (kind-stays (is_born_in w) (is_born_in next) y (kind_sight next after kind) more
            (record {
              used = λ m. sym (used-now kind m
                  ∙ ap (λ t. (t && nat_eq m number) || is_used (used_of k kind) m) (kind-itself kind));
              leases = leases-now leases;
              coming = coming-now none;
              ranges = sym (ranges kind);
            }) taken-holds)
        by-test false g =
            kind-stays (is_born_in w) (is_born_in next) _ _ more
            (kind-left-alone script p w next n (takes_by kind o) sends (entry ∷ []) c k after z
            (λ m. used-now z m ∙ ap (λ t. (t && nat_eq m number) || is_used (used_of k z) m) g)
            (ap (λ ls. for_kind ls z) leases ∙ for-other (node_of w p).leases kind z numbers g)
            (ranges z ∙ other-ranges d kind z o g) (other-leases kind z o (kind-turned kind z g)) (none z))
            (holds.kinds z)

  abbrev calls : ℕ → CallPlace
  calls = calls-now script w b holds p call kind number numbers o e s next n sends (entry ∷ []) c

  -- there are as few ranges as the longer journal allows
  pub few-now : ((z : Kind) → for_kind (directory_of next).ranges z ≡ for_kind mid.ranges z) → (z : Kind)
      → FewRanges script next calls z
  few-now ranges z = by-test (is_same_kind kind z) refl
    where
      longer : length next.journal ≡ length w.journal + 1
      longer = ap length c.journal ∙ length-append w.journal (entry ∷ [])

      same-on-way : is_same_kind kind z ≡ false → (a : ℕ) → has_lease z (calls a) ≡ has_lease z (b.call a)
      same-on-way g a =
          elim (cases_eq a p) [
            | inl at ↦
                subst (λ q. has_lease z (if nat_eq p q then Idle else b.call q) ≡ has_lease z (b.call q)) (sym at)
                (ap (λ t. has_lease z (if t then Idle else b.call p)) (eq-eqb p p refl)
                ∙ sym (s.other_kinds z (kind-turned kind z g)))
            | inr other ↦
                ap (has_lease z)
                (others-same script w b holds p call kind number numbers o e s next n sends (entry ∷ []) c a other)
          ]

      by-test : (t : Bool) → is_same_kind kind z ≡ t → FewRanges script next calls z
      by-test true g =
          subst (λ a. FewRanges script next calls a) (kind-is kind z g)
          (let old = s.few
          in let more = longer
          in let many : length (for_kind (directory_of next).ranges kind) ≡ length (for_kind mid.ranges kind) =
          ap length (ranges kind)
          in omega (arith, old, more, many))
      by-test false g =
          let old : length (for_kind d.ranges z) ≤ length w.journal + leases_on_way script b.call z + 1 = holds.few z
          in let more = longer
          in let many : length (for_kind (directory_of next).ranges z) ≡ length (for_kind d.ranges z) =
          ap length (ranges z ∙ other-ranges d kind z o g)
          in let on_way : leases_on_way script calls z ≡ leases_on_way script b.call z =
          λ i. sum_by (λ a. one_for (same-on-way g a i)) (numbers_from 1 (node_count script))
          in omega (arith, old, more, many, on_way)
