-- The leader notes who read a queue or set that it holds, and sends its deed to one of them where it is time.
use Rattle.std.proofs.Common.{◌≡◌, ◌≢◌, ℕ, ◌+◌, ◌≤◌, Bool, true, false, ◌==◌, ◌||◌, if◌then◌else◌, List, [], ◌∷◌, Contains, Option, Some, None, unwrap_or, refl, ap, sym, subst, ◌∙◌, arith, append-nil}
use Rattle.std.proofs.lemmas.Bool.{eq-eqb, false≢true}
use Rattle.pico_base.specs.declared.numbers.Name.{Name}
use Rattle.pico_base.specs.declared.script.Script.{Script}
use Rattle.rpc_frame.specs.declared.frame.Frame.TheVariants as frames
use Rattle.migrate.specs.Watching.{Watching, move_at, run_of, run_with, watching_after, watching_anew}
use Rattle.node_model.specs.declared.held.Held.{Held}
use Rattle.node_model.specs.Kinds.{get_named, is_object, without_named}
use Rattle.node_model.specs.Directory.{At, arrive, place_of, stays}
use Rattle.node_model.specs.Spelling.{pack}
use Rattle.node_model.specs.Watches.{Watches, last_move, later, unwatch, watch_over, with_read, with_reads}
use Rattle.world_model.specs.Node.{Node, is_leader}
use Rattle.world_model.specs.Step.{Step, send, with_directory, with_node}
use Rattle.world_model.specs.Serving.{grant, grant_held, move_to, note_reads}
use Rattle.world_model.specs.World.{World, node_count, world_after}
use Rattle.world_laws.specs.Places.{Beside, CallPlace, InGrant, deed_in}
use Rattle.world_laws.specs.Sights.{node_of, directory_of, is_born_in, is_born_stage, stage_of}
use Rattle.world_laws.specs.Families.{NodeHolds}
use Rattle.world_laws.specs.Cancels.{Owing, owing_of}
use Rattle.world_laws.proofs.Stays.{IsMore, name-stays}
use Rattle.world_laws.proofs.Changes.{Changes}
use Rattle.world_laws.proofs.LeftAlone.{name-left-alone, same-directory}
use Rattle.world_laws.proofs.Middles.{changes-further}
use Rattle.world_laws.proofs.NameFacts.{has_left}
use Rattle.rule_laws.proofs.Nodes.{leader-stage, node-with-objects}
use Rattle.rule_laws.proofs.Quiet.{IsQuiet, quiet-born, quiet-keeps, same-but-places}
use Rattle.rule_laws.proofs.Suggestions.{born-in-range}
use Rattle.rule_laws.proofs.own.Moved.{AreStill, is_still}
use Rattle.route_laws.specs.Watching.{WatchesAsOwner}
use Rattle.route_laws.proofs.Owed.{HoldsAt}
use Rattle.world_laws.proofs.Named.{get-put-same-name}
use Rattle.kernel_laws.proofs.Members.{contains-first, contains-later}
use Rattle.route_laws.proofs.hand.Grantings.{grant-sent-keeps}
use Rattle.route_laws.proofs.hand.Served.{IsAtLeader, at-leader}

-- after this step all holds, with something beside the world that has calls in these places, or woken
pub record HoldsAfter (script : Script) (v : World) (t : Step) (hand : List Held) (call : ℕ → CallPlace) : Type 0 where
  pub beside : Beside
  pub holds : HoldsAt script v 1 t hand beside
  pub calls : AreStill call beside.call

-- ---- who a name moves to

owner-stays : (w : Watching) (reader : ℕ) → (watching_after w reader).owner ≡ w.owner
owner-stays w reader = by (run_with w reader == 0 || run_with w reader == 4)
  where
    by : (t : Bool) → (let next : Watching = (if t then watching_anew w.owner
        else record { owner = w.owner; reader = Some reader; run = run_with w reader }) in next.owner) ≡ w.owner
    by true = refl
    by false = refl

none-is-some : (a : ℕ) → None ≡ Some a → ⊥
none-is-some a h = cc

some-is : (a c : ℕ) → Some a ≡ Some c → c ≡ a
some-is a c h = cc

-- to who has read, and isn't the owner
moves-to-reader : (w : Watching) (reader to : ℕ) → move_at w reader ≡ Some to → (to ≡ reader) × (to ≢ w.owner)
moves-to-reader w reader to h = by (run_with w reader == 4) refl h
  where
    by : (t : Bool) → (run_with w reader == 4) ≡ t → (if t then Some reader else None) ≡ Some to
        → (to ≡ reader) × (to ≢ w.owner)
    by true four moved =
        let same : to ≡ reader = some-is reader to moved
        in (
          same,
          λ owner. false≢true (sym (ap (λ t. (if t then 0 else run_of w.reader w.run reader + 1) == 4)
              (eq-eqb reader w.owner (sym same ∙ owner))) ∙ four),
        )
    by false four moved = absurd (none-is-some to moved)

-- by whether a later read moves it
by-later : (w : Watching) (reader : ℕ) (readers : List ℕ) (to : ℕ) (o : Option ℕ) → later o (move_at w reader) ≡ Some to
    → (o ≡ Some to → Contains readers to × (to ≢ w.owner)) → Contains (reader ∷ readers) to × (to ≢ w.owner)
by-later w reader readers to (Some node) moved rest =
    let behind = rest moved in (contains-later reader readers to behind.0, behind.1)
by-later w reader readers to None moved rest =
    let it = moves-to-reader w reader to moved
    in (subst (λ y. Contains (reader ∷ readers) y) (sym it.0) (contains-first reader readers), it.1)

own-then : (watches : Watches) (owner : ℕ) (name : Name) (reader : ℕ) → (watch_over watches owner name).owner ≡ owner
    → (watch_over (with_read watches owner name reader) owner name).owner ≡ owner
own-then watches owner name reader own =
    ap (λ o. (let w : Watching = unwrap_or o (watching_anew owner) in w.owner))
    (get-put-same-name watches name (watching_after (watch_over watches owner name) reader))
    ∙ owner-stays (watch_over watches owner name) reader ∙ own

-- The name moves to one of those who have read it, and not to its owner.
pub last-moves : (watches : Watches) (owner : ℕ) (name : Name) (readers : List ℕ) (to : ℕ)
    → (watch_over watches owner name).owner ≡ owner → last_move watches owner name readers ≡ Some to
    → Contains readers to × (to ≢ owner)
last-moves watches owner name [] to own h = absurd (none-is-some to h)
last-moves watches owner name (reader ∷ readers) to own h =
    let w : Watching = watch_over watches owner name
    in let found = by-later w reader readers to
    (last_move (with_read watches owner name reader) owner name readers) h
    (λ moved.
    let behind = last-moves (with_read watches owner name reader) owner name readers to
    (own-then watches owner name reader own) moved
    in (behind.0, λ e. behind.1 (e ∙ own)))
    in (found.0, λ e. found.1 (e ∙ sym own))

-- ---- at the leader

module _ (script : Script) (v : World) (s : Step) (hand : List Held) (b : Beside)
    (holds : HoldsAt script v 1 s hand b) (high-one : 1 ≤ node_count script) (name : Name) (readers : List ℕ)
    (reads : (r : ℕ) → Contains readers r → (is_object name ≡ true) × (is_born_in (world_after v 1 s) r ≡ true))
    (watched : WatchesAsOwner s.node)
    (place : place_of (directory_of (world_after v 1 s)) name ≡ Some (At 1)) where
  abbrev w : World
  w = world_after v 1 s

  abbrev owes : Owing
  owes = owing_of 1 s.strikes

  here : node_of w 1 ≡ s.node
  here =
      let c : Changes script 1 w w s.node [] [] [] =
      changes-further script v 1 s s [] [] holds.shape (omega arith) high-one tt
      (record { sends_are = sym (append-nil s.sends); entries_are = sym (append-nil s.entries) })
      in c.here

  node-was : NodeHolds script b.pids (is_born_in w) 1 (node_of w 1)
  node-was = holds.nodes 1 (omega arith) high-one

  number : s.node.number ≡ 1
  number = sym (ap (λ (m : Node). m.number) here) ∙ node-was.number

  leads : is_leader s.node ≡ true
  leads = eq-eqb s.node.number 1 number

  abbrev read_now : Watches
  read_now = with_reads s.node.watches s.node.number name readers

  abbrev noted : Step
  noted = with_node s (record s.node { watches = read_now })

  -- ---- it stays here

  abbrev n : Node
  n = record (node_of w 1) { watches = read_now }

  changes : Changes script 1 w (world_after v 1 noted) n [] [] []
  changes =
      subst (λ (m : Node). Changes script 1 w (world_after v 1 noted) m [] [] [])
      (ap (λ (m : Node). record m { watches = read_now }) (sym here))
      (changes-further script v 1 s noted [] [] holds.shape (omega arith) high-one tt
      (record { sends_are = sym (append-nil s.sends); entries_are = sym (append-nil s.entries) }))

  stage-was : (is_born_stage (stage_of w 1) ≡ true) × (has_left (stage_of w 1) ≡ false)
  stage-was = leader-stage script b.pids (is_born_in w) 1 (node_of w 1) refl node-was

  same-there : directory_of (world_after v 1 noted) ≡ directory_of w
  same-there = ap (λ (m : Node). m.leader.directory) changes.here

  quiet : IsQuiet script w (world_after v 1 noted) b b.deed 1 n [] []
  quiet =
      record {
        caller = record { number = refl; pid = refl; stage = refl; caller = refl; leases = refl };
        queue_keys = refl;
        set_keys = refl;
        directory = same-but-places (directory_of w) (directory_of (world_after v 1 noted)) same-there holds.leading;
        node = node-with-objects script b.pids (is_born_in w) 1 (node_of w 1) (node_of w 1).deeds read_now stage-was.0
            stage-was.1 refl node-was;
        deeds = λ pid. refl;
        plain_taken = tt;
        plain_sent = tt;
        no_birth_taken = tt;
        no_birth_sent = tt;
        no_lease_taken = λ kind. tt;
        no_lease_sent = λ kind. tt;
        of_no_call = λ y. tt;
        sent_of_no_call = λ y. tt;
        no_cancel_taken = λ y. tt;
        no_cancel_sent = λ y. tt;
        may_be_sent = tt;
        to_others = tt;
      }

  more : IsMore (is_born_in w) (is_born_in (world_after v 1 noted))
  more =
      quiet-born script w (world_after v 1 noted) hand owes b b.deed 1 n [] [] (omega arith) high-one holds changes
      quiet

  noted-keeps : HoldsAfter script v noted hand b.call
  noted-keeps =
      record {
        beside = b;
        holds = quiet-keeps script w (world_after v 1 noted) hand owes b b.deed 1 n [] [] (omega arith) high-one holds
            changes quiet
            (λ m. name-stays script b.pids (is_born_in w) (is_born_in (world_after v 1 noted)) m _ _ more
            (name-left-alone script 1 w (world_after v 1 noted) n [] [] [] changes hand hand b b m
            (record {
              directory = same-directory (directory_of w) (directory_of (world_after v 1 noted)) same-there m;
              used_is = refl;
              part_is = refl;
              body_is = refl;
              deed_is = refl;
              held_is = refl;
              begins_is = λ holds_it comes. refl;
              hand_is = refl;
              steps_are = λ used y. refl;
              ranges_are = λ used y. refl;
            }) tt tt) (holds.names m));
        calls = λ y. is_still refl;
      }

  -- ---- it goes there

  at : IsAtLeader w b name
  at = at-leader script w hand b name holds place

  held-here : get_named s.node.deeds name ≡ Some (b.body name)
  held-here = ap (λ (m : Node). get_named m.deeds name) (sym here) ∙ at.held

  module _ (reader : ℕ) (object : is_object name ≡ true) (born : is_born_in w reader ≡ true) (other : reader ≢ 1) where
    low-high : (1 ≤ reader) × (reader ≤ node_count script)
    low-high = born-in-range script w holds.shape reader born

    abbrev after : Step
    after = grant_held noted name reader (Some (b.body name))

    granted-keeps : stays s.node.leader.directory reader ≡ true
        → HoldsAfter script v (grant noted name reader) hand b.call
    granted-keeps stays_there =
        subst (λ o. HoldsAfter script v (grant_held noted name reader o) hand b.call) (sym held-here)
        (record {
          beside = record b { deed = deed_in b.deed name (InGrant reader) };
          holds = grant-sent-keeps script w hand b holds name reader object born other place
              (ap (λ (m : Node). stays m.leader.directory reader) here ∙ stays_there) (unwatch read_now name)
              (world_after v 1 after)
              (subst (λ (m : Node). Changes script 1 w (world_after v 1 after) m []
              ((reader, frames.Grant (pack name (b.body name))) ∷ []) [])
              (ap (λ (m : Node). with_directory (record m {
                deeds = without_named m.deeds name;
                watches = unwatch read_now name;
              }) (arrive m.leader.directory name reader)) (sym here))
              (changes-further script v 1 s after ((reader, frames.Grant (pack name (b.body name))) ∷ []) []
              holds.shape (omega arith) high-one (record { low = low-high.0; high = low-high.1 }, tt)
              (record { sends_are = refl; entries_are = sym (append-nil s.entries) })));
          calls = λ y. is_still refl;
        })

    by-stays : (t : Bool) → stays s.node.leader.directory reader ≡ t
        → HoldsAfter script v (if t then grant noted name reader else noted) hand b.call
    by-stays true e = granted-keeps e
    by-stays false e = noted-keeps

  by-move : (o : Option ℕ) → last_move s.node.watches s.node.number name readers ≡ o
      → HoldsAfter script v (move_to noted name o) hand b.call
  by-move None moves = noted-keeps
  by-move (Some to) moves =
      let it = last-moves s.node.watches s.node.number name readers to (watched name) moves
      in let of_reader = reads to it.0
      in subst (λ t. HoldsAfter script v (if t
      then if stays s.node.leader.directory to then grant noted name to else noted
      else send noted 1 (frames.Suggest name to)) hand b.call) (sym leads)
      (by-stays to of_reader.0 of_reader.1 (λ e. it.1 (e ∙ sym number)) (stays s.node.leader.directory to) refl)

  -- All holds after the leader has noted who read, and perhaps sent the deed to one of them.
  pub reads-noted-keep : HoldsAfter script v (note_reads s name readers) hand b.call
  reads-noted-keep = by-move (last_move s.node.watches s.node.number name readers) refl
