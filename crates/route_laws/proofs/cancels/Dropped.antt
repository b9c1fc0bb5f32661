-- A node takes a withdrawal that the leader has sent it, and drops it: it is an old one.
use Rattle.std.proofs.Common.{Bool, List, Some, [], ap, append-nil, arith, false, if◌then◌else◌, nat_eq, refl, subst, sym, true, ℕ, ◌&&◌, ◌++◌, ◌∙◌, ◌∷◌, ◌≡◌, ◌≢◌, ◌≤◌}
use Rattle.std.proofs.lemmas.Bool.{ne_eqb}
use Rattle.pico_base.specs.declared.call.Call.{Call}
use Rattle.pico_base.specs.declared.numbers.Name.{Name}
use Rattle.pico_base.specs.declared.script.Script.{Script}
use Rattle.rpc_frame.specs.declared.asked.Asked.{Asked}
use Rattle.rpc_frame.specs.declared.frame.Frame.TheVariants as frames
use Rattle.rpc_frame.specs.declared.frame.Frame.{Frame}
use Rattle.waiting_model.specs.Calls.{is_withdrawal}
use Rattle.node_model.specs.Directory.{held_for, is_known, stays}
use Rattle.world_model.specs.Node.{Node}
use Rattle.world_model.specs.World.{World, node_count}
use Rattle.rule_laws.proofs.CallMoves.{cancel-if-same}
use Rattle.world_laws.proofs.CancelMoves.{CancelTravels, old-travels}
use Rattle.world_laws.proofs.Cancels.{KnowsTickets, OldHold, cancel-of, may_be_withdrawn, same-later}
use Rattle.world_laws.proofs.Changes.{Changes, frames_if, read-same}
use Rattle.world_laws.proofs.Heads.{head-from-another, head-is}
use Rattle.world_laws.proofs.LeftAlone.{same-directory}
use Rattle.world_laws.proofs.Sends.{frame_if}
use Rattle.world_laws.proofs.Stays.{IsMore}
use Rattle.world_laws.proofs.Steps.{Heads}
use Rattle.world_laws.proofs.Wholes.{whole-left-alone}
use Rattle.world_laws.specs.Callers.{only_if}
use Rattle.world_laws.specs.Cancels.{CancelHolds, IsCancelOf, LeadsNowhere, Nothing, Wakes, cancel_sight}
use Rattle.world_laws.specs.Invariant.{HoldsOwing}
use Rattle.world_laws.specs.Names.{NameHolds, name_sight}
use Rattle.world_laws.specs.Places.{Beside, CancelPlace, NoCancel, SentTo, cancel_in}
use Rattle.world_laws.specs.Sights.{directory_of, frames_to, is_born_in, node_of}
use Rattle.route_laws.proofs.cancels.Brought.{first-of-caller}
use Rattle.route_laws.proofs.cancels.Current.{IsCurrent, from_leader}
use Rattle.route_laws.proofs.cancels.Going.{HasGone, goes}
use Rattle.route_laws.proofs.cancels.Interrupts.{nothing-sent-by}
use Rattle.route_laws.proofs.cancels.NameTaken.{name-cancel-taken}
use Rattle.route_laws.proofs.cancels.Travels.{DirectoryStays, HoldsStill, NodeStays, travel-born, travel-keeps}

module _ (script : Script) (w w' : World) (b : Beside) (holds : HoldsOwing script w [] Nothing b) (p : ℕ)
    (cancel : Asked) (rest : List Frame) (h : Heads script w p 1 (frames.Cancel cancel) rest)
    (low : 1 ≤ cancel.caller) (high : cancel.caller ≤ node_count script)
    (is_cancel : is_withdrawal cancel.call ≡ true)
    (c : Changes script p w w' (node_of w p) ((1, frames.Cancel cancel) ∷ []) [] []) where
  abbrev q : ℕ
  q = cancel.caller

  abbrev takes : List (ℕ × Frame)
  takes = (1, frames.Cancel cancel) ∷ []

  other : p ≢ 1
  other e = head-from-another script w p 1 (frames.Cancel cancel) rest h (is_born_in w) holds.frames_fit (sym e)

  front : frames_to w p 1 ≡ frames.Cancel cancel ∷ rest
  front = head-is script w p 1 (frames.Cancel cancel) rest h

  read : {T : Type 0} (f : Node → T) (y : ℕ) → f (node_of w' y) ≡ f (node_of w y)
  read f y = read-same script p w w' (node_of w p) takes [] [] c f refl y

  directory-is : directory_of w' ≡ directory_of w
  directory-is = read (λ (m : Node). m.leader.directory) 1

  taken-once : (t s : Bool) → frames_if t (frame_if s (frames.Cancel cancel) ++ []) ≡ only_if (t && s)
      (frames.Cancel cancel)
  taken-once true true = refl
  taken-once true false = refl
  taken-once false true = refl
  taken-once false false = refl

  travels : CancelTravels q (SentTo p) NoCancel cancel w w' [] []
  travels =
      record {
        streams = λ at sender. record {
          left = c.left at sender;
          taken = c.before at sender
              ∙ ap (λ fs. fs ++ c.left at sender) (taken-once (nat_eq at p) (nat_eq sender 1));
          put = c.after at sender ∙ ap (λ fs. c.left at sender ++ fs) (nothing-sent-by (nat_eq sender p));
        };
        lists = λ m. record {
          left = held_for (directory_of w) m;
          taken = refl;
          put = ap (λ d. held_for d m) directory-is ∙ sym (append-nil (held_for (directory_of w) m));
        };
        hands = record { left = []; taken = refl; put = refl };
      }

  nowhere-still : (m : Name) → LeadsNowhere (cancel_sight w [] b q) m → LeadsNowhere (cancel_sight w' [] b q) m
  nowhere-still m l =
      record {
        node = l.node;
        is = l.is;
        leaves = ap (λ d. stays d l.node) directory-is ∙ l.leaves;
        unknown = ap (λ d. is_known d m) directory-is ∙ l.unknown;
      }

  all-said : CancelHolds q Nothing (cancel_sight w [] b q)
  all-said = holds.cancels q low high

  -- it is one of its caller's
  of-caller : IsCancelOf (cancel_sight w [] b q) cancel
  of-caller = first-of-caller w b [] q Nothing p 1 cancel rest refl all-said front

  -- beside the world the withdrawal is there now
  abbrev at_place : CancelPlace → Beside
  at_place place = record b { cancel = cancel_in b.cancel q place }

  node-stays : NodeStays script w b p q (node_of w p)
  node-stays =
      record {
        number = refl;
        pid = refl;
        stage = refl;
        leases = refl;
        noted = (node_of w p).caller.noted;
        caller = refl;
        unnoted = λ other. refl;
        queue_keys = refl;
        set_keys = refl;
        holds = holds.nodes p h.low h.high;
      }

  directory-stays : DirectoryStays (directory_of w) (directory_of w')
  directory-stays =
      subst (λ d. DirectoryStays (directory_of w) d) (sym directory-is)
      (record {
        partings_are = λ y. refl;
        known_are = λ m. refl;
        ranges_are = λ kind. refl;
        leads = holds.leading;
      })

  others-stay : (place : CancelPlace) (y : ℕ) → y ≢ q → cancel_in b.cancel q place y ≡ b.cancel y
  others-stay place y d = ap (λ u. if u then place else b.cancel y) (ne_eqb q y (λ e. d (sym e)))

  born-still : (place : CancelPlace) → IsMore (is_born_in w) (is_born_in w')
  born-still place =
      travel-born script w w' [] [] Nothing Nothing b (cancel_in b.cancel q place) p (node_of w p) takes []
      cancel q refl (SentTo p) NoCancel h.low h.high holds c travels is_cancel node-stays directory-stays
      (refl, tt) tt tt tt (others-stay place) (λ y d same. cancel-if-same y Nothing _ _ refl same)
      (λ l. whole-left-alone w w' b (at_place place) Nothing l)

  names : (place : CancelPlace) (m : Name)
      → NameHolds script b.pids (is_born_in w') m (name_sight script w' [] (at_place place) m)
  names place m =
      name-cancel-taken script p w w' (node_of w p) cancel [] c [] [] b (at_place place) m
      (same-directory (directory_of w) (directory_of w') directory-is m) refl refl refl refl refl refl refl refl b.pids
      (let low_p = h.low in omega (arith, low_p, other)) (born-still place) (holds.names m)

  knows : KnowsTickets (cancel_sight w [] b q) (cancel_sight w' [] (at_place NoCancel) q)
  knows =
      record {
        pid = sym (read (λ (m : Node). m.pid) q);
        later = same-later (let m : Node = node_of w q in m.caller) (let m : Node = node_of w' q in m.caller)
            (sym (read (λ (m : Node). m.caller) q));
      }

  -- In the middle of the event all holds without it, but for what is said of withdrawals,
  pub taken-cleared : HoldsOwing script w' [] Wakes (record b { cancel = cancel_in b.cancel cancel.caller NoCancel })
  taken-cleared =
      travel-keeps script w w' [] [] Nothing Wakes b (cancel_in b.cancel q NoCancel) p (node_of w p) takes [] cancel q
      refl (SentTo p) NoCancel h.low h.high holds c travels is_cancel node-stays directory-stays (refl, tt) tt tt tt
      (others-stay NoCancel) (λ y d same h. tt) (λ l h. tt) low high tt (names NoCancel)

  -- and all others of its caller are as they were.
  pub taken-others : OldHold
      (cancel_sight w' [] (record b { cancel = cancel_in b.cancel cancel.caller NoCancel }) cancel.caller)
  taken-others =
      old-travels q (SentTo p) NoCancel cancel w w' [] [] b (at_place NoCancel) travels refl is_cancel Nothing knows
      (cancel-of (cancel_sight w [] b q) (cancel_sight w' [] (at_place NoCancel) q) cancel knows of-caller) all-said

  module _ (earlier : (call : Call) → (node_of w cancel.caller).caller.under_way ≡ Some call
      → may_be_withdrawn (node_of w cancel.caller).pid call ≡ true
      → IsCurrent cancel.caller (cancel_sight w [] b cancel.caller) call cancel (SentTo p) → ⊥) where
    gone : HasGone q Nothing w' [] b
    gone =
        goes q Nothing w w' [] [] b cancel (SentTo p) NoCancel travels refl is_cancel (from_leader p rest other front)
        all-said (first-of-caller w b [] q Nothing p 1 cancel rest refl all-said front)
        (read (λ (m : Node). m.number) q) (read (λ (m : Node). m.pid) q) (read (λ (m : Node). m.caller) q) nowhere-still
        (λ call under_way waits unanswered cur. absurd (earlier call under_way waits cur))

    abbrev after : Beside
    after = record b { cancel = cancel_in b.cancel q gone.cancel }

    -- All holds without it.
    pub cancel-dropped : HoldsStill script w' [] Nothing b
    cancel-dropped =
        record {
          cancels = cancel_in b.cancel q gone.cancel;
          holds = travel-keeps script w w' [] [] Nothing Nothing b (cancel_in b.cancel q gone.cancel) p (node_of w p)
              takes [] cancel q refl (SentTo p) NoCancel h.low h.high holds c travels is_cancel node-stays
              directory-stays (refl, tt) tt tt tt (others-stay gone.cancel)
              (λ y d same. cancel-if-same y Nothing _ _ refl same) (λ l. whole-left-alone w w' b after Nothing l)
              low high gone.holds (names gone.cancel);
        }
