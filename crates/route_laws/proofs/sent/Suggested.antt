-- A node that has carried out a call notes who read, and tells the leader where the name would be better at one of
-- them.
use Rattle.std.proofs.Common.{◌≡◌, ◌≢◌, ℕ, ◌≤◌, Bool, true, false, ◌==◌, if◌then◌else◌, List, [], ◌∷◌, Option, Some, None, Contains, refl, ap, sym, subst, ◌∙◌, arith, append-nil}
use Rattle.std.specs.List.{AllByRecursion}
use Rattle.std.proofs.lemmas.Bool.{ne_eqb}
use Rattle.pico_base.specs.declared.numbers.Name.{Name}
use Rattle.pico_base.specs.declared.script.Script.{Script}
use Rattle.rpc_frame.specs.declared.frame.Frame.{Frame}
use Rattle.rpc_frame.specs.declared.frame.Frame.TheVariants as frames
use Rattle.kernel_laws.proofs.Members.{contains-first, contains-later}
use Rattle.migrate.specs.Watching.{run_with}
use Rattle.node_model.specs.declared.held.Held.{Held}
use Rattle.node_model.specs.Kinds.{is_object}
use Rattle.node_model.specs.Directory.{stays}
use Rattle.node_model.specs.Watches.{Watches, last_move, later, moves_to, watch_over, with_read, with_reads}
use Rattle.world_model.specs.Node.{Node, is_leader}
use Rattle.world_model.specs.Step.{Step, send, with_node}
use Rattle.world_model.specs.Serving.{grant, move_to, note_reads}
use Rattle.world_model.specs.World.{World, node_count, world_after}
use Rattle.world_laws.specs.Places.{Beside}
use Rattle.world_laws.specs.Sights.{node_of, directory_of, is_born_in}
use Rattle.world_laws.specs.Callers.{is_about}
use Rattle.world_laws.specs.Families.{NodeHolds}
use Rattle.world_laws.specs.Cancels.{Owing, is_cancel_of, owing_of}
use Rattle.world_laws.specs.Invariant.{HoldsOwing, MayBe}
use Rattle.world_laws.proofs.Stays.{IsMore, name-stays}
use Rattle.world_laws.proofs.Changes.{Changes, read-same}
use Rattle.world_laws.proofs.Frames.{ArePlain, BringNoBirth, BringNoLease}
use Rattle.world_laws.proofs.LeftAlone.{AreNotAbout, name-left-alone, same-directory}
use Rattle.world_laws.proofs.Middles.{GrowsBy, changes-further}
use Rattle.world_laws.proofs.Sends.{AreToNodes}
use Rattle.route_laws.proofs.Owed.{HoldsAt}
use Rattle.route_laws.proofs.sent.SameNodes.{node-with}
use Rattle.rule_laws.proofs.Quiet.{IsQuiet, quiet-born, quiet-keeps, same-but-places}

-- ---- who a name moves to

some-is : {A : Type 0} (x y : A) → Some x ≡ Some y → y ≡ x
some-is x y h = cc

none-is-some : {A : Type 0} (x : A) → None ≡ Some x → ⊥
none-is-some x h = cc

-- it is one of those who read
last-among : (watches : Watches) (owner : ℕ) (name : Name) (readers : List ℕ) (to : ℕ)
    → last_move watches owner name readers ≡ Some to → Contains readers to
last-among watches owner name [] to h = absurd (none-is-some to h)
last-among watches owner name (reader ∷ readers) to h =
    last-by (last_move (with_read watches owner name reader) owner name readers) refl
    (last-among (with_read watches owner name reader) owner name readers to) h
  where
    now : (t : Bool) → (if t then Some reader else None) ≡ Some to → Contains (reader ∷ readers) to
    now true moved = subst (Contains (reader ∷ readers)) (sym (some-is reader to moved)) (contains-first reader readers)
    now false moved = absurd (none-is-some to moved)

    last-by : (o : Option ℕ) → last_move (with_read watches owner name reader) owner name readers ≡ o
        → (last_move (with_read watches owner name reader) owner name readers ≡ Some to → Contains readers to)
        → later o (moves_to watches owner name reader) ≡ Some to → Contains (reader ∷ readers) to
    last-by (Some node) last rest moved = contains-later reader readers to (rest (last ∙ moved))
    last-by None last rest moved = now (run_with (watch_over watches owner name) reader == 4) moved

-- ---- frames that nothing depends on

-- frames that are about no call and no name, no end and no birth, and bring no numbers
pub record AreSilent (script : Script) (w : World) (p : ℕ) (sends : List (ℕ × Frame)) : Type 0 where
  pub to_nodes : AreToNodes (node_count script) sends
  pub plain : ArePlain sends
  pub no_birth : BringNoBirth sends
  pub no_lease : BringNoLease sends
  pub of_no_call : (y : ℕ) → AllByRecursion (λ s. is_about y s.0 p s.1 ≡ false) sends
  pub no_cancel : (y : ℕ) → AllByRecursion (λ s. is_cancel_of y s.1 ≡ false) sends
  pub may_be : AllByRecursion (λ s. MayBe script (is_born_in w) s.0 p s.1) sends
  pub to_others : AllByRecursion (λ s. s.0 ≢ p) sends
  pub not_about : (name : Name) → AreNotAbout name sends

module _ (script : Script) (v : World) (p : ℕ) (s : Step) (hand : List Held) (b : Beside)
    (holds : HoldsAt script v p s hand b) (low : 1 ≤ p) (high : p ≤ node_count script) (other : p ≢ 1)
    (node_born : is_born_in (world_after v p s) p ≡ true) (name : Name) (readers : List ℕ)
    (reads : (r : ℕ) → Contains readers r → (is_object name ≡ true) × (is_born_in (world_after v p s) r ≡ true)) where
  abbrev w : World
  w = world_after v p s

  abbrev owes : Owing
  owes = owing_of p s.strikes

  here : node_of w p ≡ s.node
  here =
      let c : Changes script p w w s.node [] [] [] =
      changes-further script v p s s [] [] holds.shape low high tt
      (record { sends_are = sym (append-nil s.sends); entries_are = sym (append-nil s.entries) })
      in c.here

  node-was : NodeHolds script b.pids (is_born_in w) p (node_of w p)
  node-was = holds.nodes p low high

  no-leader : is_leader s.node ≡ false
  no-leader = ne_eqb s.node.number 1 (λ e. other (sym node-was.number ∙ ap (λ (m : Node). m.number) here ∙ e))

  abbrev read_now : Watches
  read_now = with_reads s.node.watches s.node.number name readers

  abbrev noted : Step
  noted = with_node s (record s.node { watches = read_now })

  abbrev n : Node
  n = record (node_of w p) { watches = read_now }

  node-now : NodeHolds script b.pids (is_born_in w) p n
  node-now = node-with script b.pids (is_born_in w) p (node_of w p) n node_born node-was node-was.owners

  module _ (sends : List (ℕ × Frame)) (silent : AreSilent script w p sends) (w' : World)
      (c : Changes script p w w' n [] sends []) where
    same-there : directory_of w' ≡ directory_of w
    same-there = read-same script p w w' n [] sends [] c (λ (m : Node). m.leader.directory) refl 1

    quiet : IsQuiet script w w' b b.deed p n [] sends
    quiet =
        record {
          caller = record { number = refl; pid = refl; stage = refl; caller = refl; leases = refl };
          queue_keys = refl;
          set_keys = refl;
          directory = same-but-places (directory_of w) (directory_of w') same-there holds.leading;
          node = node-now;
          deeds = λ pid. refl;
          plain_taken = tt;
          plain_sent = silent.plain;
          no_birth_taken = tt;
          no_birth_sent = silent.no_birth;
          no_lease_taken = λ kind. tt;
          no_lease_sent = silent.no_lease;
          of_no_call = λ y. tt;
          sent_of_no_call = silent.of_no_call;
          no_cancel_taken = λ y. tt;
          no_cancel_sent = silent.no_cancel;
          may_be_sent = silent.may_be;
          to_others = silent.to_others;
        }

    more : IsMore (is_born_in w) (is_born_in w')
    more = quiet-born script w w' hand owes b b.deed p n [] sends low high holds c quiet

    silent-keeps : HoldsOwing script w' hand owes b
    silent-keeps =
        quiet-keeps script w w' hand owes b b.deed p n [] sends low high holds c quiet
        (λ m. name-stays script b.pids (is_born_in w) (is_born_in w') m _ _ more
        (name-left-alone script p w w' n [] sends [] c hand hand b b m
        (record {
          directory = same-directory (directory_of w) (directory_of w') same-there m;
          used_is = refl;
          part_is = refl;
          body_is = refl;
          deed_is = refl;
          held_is = refl;
          begins_is = λ holds_it comes. refl;
          hand_is = refl;
          steps_are = λ used y. refl;
          ranges_are = λ used y. refl;
        }) tt (silent.not_about m)) (holds.names m))

  -- a step that notes the read, and sends these
  noted-by : (t : Step) (sends : List (ℕ × Frame)) → AreSilent script w p sends
      → t.node ≡ record s.node { watches = read_now } → GrowsBy s t sends []
      → HoldsOwing script (world_after v p t) hand owes b
  noted-by t sends silent node_is grows =
      silent-keeps sends silent (world_after v p t)
      (subst (λ (m : Node). Changes script p w (world_after v p t) m [] sends [])
      (node_is ∙ ap (λ (m : Node). record m { watches = read_now }) (sym here))
      (changes-further script v p s t sends [] holds.shape low high silent.to_nodes grows))

  none-sent : AreSilent script w p []
  none-sent =
      record {
        to_nodes = tt;
        plain = tt;
        no_birth = tt;
        no_lease = λ kind. tt;
        of_no_call = λ y. tt;
        no_cancel = λ y. tt;
        may_be = tt;
        to_others = tt;
        not_about = λ m. tt;
      }

  suggestion : (to : ℕ) → Contains readers to → AreSilent script w p ((1, frames.Suggest name to) ∷ [])
  suggestion to there =
      let it = reads to there in
      record {
        to_nodes = (record { low = omega arith; high = omega (arith, low, high) }, tt);
        plain = (refl, tt);
        no_birth = (refl, tt);
        no_lease = λ kind. (refl, tt);
        of_no_call = λ y. (refl, tt);
        no_cancel = λ y. (refl, tt);
        may_be = ((refl, it.0, it.1), tt);
        to_others = ((λ e. other (sym e)), tt);
        not_about = λ m. (refl, tt);
      }

  by-move : (o : Option ℕ) → last_move s.node.watches s.node.number name readers ≡ o
      → HoldsOwing script (world_after v p (move_to noted name o)) hand owes b
  by-move None moves =
      noted-by noted [] none-sent refl
      (record { sends_are = sym (append-nil s.sends); entries_are = sym (append-nil s.entries) })
  by-move (Some to) moves =
      subst (λ t. HoldsOwing script (world_after v p (if t
      then if stays s.node.leader.directory to then grant noted name to else noted
      else send noted 1 (frames.Suggest name to))) hand owes b) (sym no-leader)
      (noted-by (send noted 1 (frames.Suggest name to)) ((1, frames.Suggest name to) ∷ [])
      (suggestion to (last-among s.node.watches s.node.number name readers to moves)) refl
      (record { sends_are = refl; entries_are = sym (append-nil s.entries) }))

  notes-calmly : (o : Option ℕ) → (let t : Step = move_to noted name o in t.strikes) ≡ s.strikes
  notes-calmly None = refl
  notes-calmly (Some to) =
      ap (λ t. (let z : Step = (if t
      then if stays s.node.leader.directory to then grant noted name to else noted
      else send noted 1 (frames.Suggest name to)) in z.strikes)) no-leader

  -- All holds after the node has noted who read, and perhaps told the leader.
  pub reads-suggested-keep : HoldsAt script v p (note_reads s name readers) hand b
  reads-suggested-keep =
      subst (λ t. HoldsOwing script (world_after v p (note_reads s name readers)) hand (owing_of p t) b)
      (sym (notes-calmly (last_move s.node.watches s.node.number name readers)))
      (by-move (last_move s.node.watches s.node.number name readers) refl)
