-- The leader has made a queue or a set, whoever asked for it: what holds of the numbers afterwards.
use Rattle.std.proofs.Common.{◌≡◌, ℕ, ◌+◌, ◌≤◌, Bool, true, false, ◌&&◌, ◌||◌, if◌then◌else◌, List, [], ◌∷◌, length, flat_map, sum_by, nat_eq, Some, refl, ap, sym, subst, ◌∙◌, inl, inr, arith}
use Rattle.std.specs.List.{AllByRecursion}
use Rattle.std.proofs.lemmas.Bool.{cases_eq, eq-eqb, ne_eqb}
use Rattle.std.proofs.lemmas.List.{length-append}
use Rattle.pico_base.specs.declared.call.Call.{Call}
use Rattle.pico_base.specs.declared.numbers.Kind.{Kind}
use Rattle.pico_base.specs.declared.numbers.Name.{Name}
use Rattle.pico_base.specs.declared.reply.Entry.{Entry}
use Rattle.pico_base.specs.declared.reply.Reply.TheVariants as replies
use Rattle.pico_base.specs.declared.script.Script.{Script}
use Rattle.rpc_frame.specs.declared.frame.Frame.{Frame}
use Rattle.number_maps.specs.Maps.{is_used}
use Rattle.kernel_model.specs.Footprint.{used_of}
use Rattle.kernel_model.specs.Kernel.{Kernel}
use Rattle.entry_laws.proofs.Fresh.{MakesObject}
use Rattle.entry_laws.proofs.Numbers.{used-at}
use Rattle.node_model.specs.declared.held.Held.{Held}
use Rattle.node_model.specs.Kinds.{for_kind, is_same_kind, number_of}
use Rattle.node_model.specs.Bodies.{Body}
use Rattle.node_model.specs.Caller.{Caller}
use Rattle.node_model.specs.Directory.{Directory}
use Rattle.world_model.specs.Node.{Node}
use Rattle.world_model.specs.World.{World, node_count, numbers}
use Rattle.world_laws.specs.Places.{Beside, CallPlace}
use Rattle.world_laws.specs.Sights.{directory_of, is_born_in, node_of}
use Rattle.world_laws.specs.Ranges.{FewRanges, KindHolds, KindSight, has_lease, kind_sight, lease_at, lease_in, leases_on_way, one_for}
use Rattle.world_laws.specs.Cancels.{Owing}
use Rattle.world_laws.specs.Invariant.{HoldsOwing}
use Rattle.world_laws.proofs.Changes.{Changes, flat_map-is-list-map, made-same}
use Rattle.world_laws.proofs.Frames.{all-weaker, no-lease}
use Rattle.world_laws.proofs.LeftAlone.{kind-left-alone}
use Rattle.world_laws.proofs.Stays.{IsMore, SameKind, kind-stays}
use Rattle.rule_laws.proofs.own.NewNumbers.{taken-at}
use Rattle.rule_laws.proofs.own.Objects.{for-other, for-with, kind-is, kind-itself}
use Rattle.route_laws.proofs.keys.MadeHere.{MakesOf, Tables, made_node, ranges-now}
use Rattle.route_laws.proofs.keys.Taking.{TakesNumber, to_be_taken}

module _ (script : Script) (w w' : World) (hand : List Held) {owes : Owing} (b : Beside)
    (holds : HoldsOwing script w hand owes b)
    (some_node : 1 ≤ node_count script) (pid : ℕ) (call : Call) (kind : Kind) (name : Name) (body : Body)
    (m : MakesOf w b pid call kind name body) (caller : Caller) (keys : Tables)
    (calls : ℕ → CallPlace) (sends : List (ℕ × Frame)) (entry : Entry)
    (c : Changes script 1 w w' (made_node (node_of w 1) kind m.takes.numbers m.takes.directory name body caller keys)
    [] sends (entry ∷ [])) (more : IsMore (is_born_in w) (is_born_in w'))
    (no_lease_sent : (y : Kind) → AllByRecursion (λ s. lease_in y s.1 ≡ []) sends) where
  abbrev n : Node
  n = node_of w 1

  abbrev d : Directory
  d = directory_of w

  abbrev t : TakesNumber w b.kernel kind
  t = m.takes

  abbrev k : Kernel
  k = b.kernel

  abbrev made : MakesObject b.kernel pid call name body
  made = m.made

  abbrev after : Node
  after = made_node (node_of w 1) kind t.numbers t.directory name body caller keys

  -- the ranges are those that there were when the number was taken
  ranges-are : (y : Kind) → for_kind (directory_of w').ranges y ≡ for_kind t.directory.ranges y
  ranges-are y =
      ap (λ (z : Node). for_kind z.leader.directory.ranges y) c.here
      ∙ ranges-now script w hand b holds some_node pid call kind name body m y

  used-is : (y : Kind) (number : ℕ) → is_used (used_of made.next y) number
      ≡ ((is_same_kind kind y && nat_eq number t.number) || is_used (used_of k y) number)
  used-is y number =
      used-at k pid call (replies.Num (number_of name)) (Some name) made.next made.enters y number
      ∙ ap (λ z. (is_same_kind z y && nat_eq number (number_of name)) || is_used (used_of k y) number) m.kind_is
      ∙ ap (λ z. (is_same_kind kind y && nat_eq number z) || is_used (used_of k y) number) m.number_is

  abbrev before : KindSight
  before = to_be_taken w k kind (t.number ∷ t.numbers) t.directory

  lease-now : (q : ℕ) → (if nat_eq q 1 then t.numbers else before.leases q) ≡ lease_at w' kind q
  lease-now q =
      elim (cases_eq q 1) [
        | inl e ↦
            ap (λ u. if u then t.numbers else before.leases q) (eq-eqb q 1 e)
            ∙ subst (λ y. t.numbers ≡ lease_at w' kind y) (sym e)
            (sym (ap (λ (z : Node). for_kind z.leases kind) c.here ∙ for-with n.leases kind t.numbers))
        | inr e ↦
            ap (λ u. if u then t.numbers else before.leases q) (ne_eqb q 1 e)
            ∙ ap (λ u. if u then t.number ∷ t.numbers else lease_at w kind q) (ne_eqb q 1 e)
            ∙ sym (ap (λ (z : Node). for_kind z.leases kind) (c.others q e))
      ]

  kind-seen : SameKind (taken-at before 1 t.number t.numbers) (kind_sight w' made.next kind)
  kind-seen =
      record {
        used = λ number. sym (used-is kind number
            ∙ ap (λ u. (u && nat_eq number t.number) || is_used (used_of k kind) number) (kind-itself kind));
        leases = lease-now;
        coming = λ q. sym (made-same script 1 w w' after [] sends (entry ∷ []) c
            (λ t s fs. flat_map (lease_in kind) fs) (λ t s. flat_map-is-list-map (lease_in kind)) tt
            (all-weaker (λ s. no-lease kind s.1) sends (no_lease_sent kind)) q 1);
        ranges = sym (ranges-are kind);
      }

  -- All holds of each kind.
  pub made-kinds : (y : Kind) → KindHolds (is_born_in w') (kind_sight w' made.next y)
  made-kinds y = by-test (is_same_kind kind y) refl
    where
      by-test : (u : Bool) → is_same_kind kind y ≡ u → KindHolds (is_born_in w') (kind_sight w' made.next y)
      by-test true e =
          subst (λ z. KindHolds (is_born_in w') (kind_sight w' made.next z)) (kind-is kind y e)
          (kind-stays (is_born_in w) (is_born_in w') _ _ more kind-seen t.taken)
      by-test false e =
          kind-stays (is_born_in w) (is_born_in w') _ _ more
          (kind-left-alone script 1 w w' after [] sends (entry ∷ []) c k made.next y
          (λ number. used-is y number
          ∙ ap (λ u. (u && nat_eq number t.number) || is_used (used_of k y) number) e)
          (for-other n.leases kind y t.numbers e) (ranges-are y ∙ t.other_ranges y e) tt (no_lease_sent y))
          (holds.kinds y)

  one-more : (y : Kind) (u : Bool) → is_same_kind kind y ≡ u
      → length (for_kind t.directory.ranges y) ≤ length (for_kind d.ranges y) + 1
  one-more y true e =
      subst (λ z. length (for_kind t.directory.ranges z) ≤ length (for_kind d.ranges z) + 1) (kind-is kind y e)
      t.one_more
  one-more y false e =
      let same : length (for_kind t.directory.ranges y) ≡ length (for_kind d.ranges y) =
      ap length (t.other_ranges y e)
      in omega (arith, same)

  -- There is one more range at most, and the journal is the longer.
  pub made-few : (y : Kind) → ((q : ℕ) → has_lease y (calls q) ≡ has_lease y (b.call q))
      → FewRanges script w' calls y
  made-few y same =
      let old : length (for_kind d.ranges y) ≤ length w.journal + leases_on_way script b.call y + 1 = holds.few y
      in let longer : length w'.journal ≡ length w.journal + 1 =
      ap length c.journal ∙ length-append w.journal (entry ∷ [])
      in let many : length (for_kind (directory_of w').ranges y) ≡ length (for_kind t.directory.ranges y) =
      ap length (ranges-are y)
      in let one = one-more y (is_same_kind kind y) refl
      in let on_way : leases_on_way script calls y ≡ leases_on_way script b.call y =
      λ i. sum_by (λ q. one_for (same q i)) (numbers 1 (node_count script))
      in omega (arith, old, longer, many, one, on_way)
