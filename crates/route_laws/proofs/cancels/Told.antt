-- A withdrawal of a node's own call goes to the leader; the leader's own is in its hand.
use Rattle.std.proofs.Common.{List, Option, [], ap, append-nil, arith, inl, nat_eq, refl, subst, sym, true, ℕ, ◌++◌, ◌∙◌, ◌∷◌, ◌≡◌, ◌≢◌, ◌≤◌}
use Rattle.std.proofs.lemmas.Bool.{false≢true}
use Rattle.pico_base.specs.declared.call.Call.{Call}
use Rattle.pico_base.specs.declared.numbers.Name.{Name}
use Rattle.pico_base.specs.declared.script.Script.{Script}
use Rattle.rpc_frame.specs.declared.asked.Asked.{Asked}
use Rattle.rpc_frame.specs.declared.frame.Frame.TheVariants as frames
use Rattle.rpc_frame.specs.declared.frame.Frame.{Frame}
use Rattle.node_model.specs.Directory.{held_for}
use Rattle.node_model.specs.declared.held.Held.TheVariants.{Request}
use Rattle.node_model.specs.declared.held.Held.{Held}
use Rattle.world_model.specs.Node.{Node}
use Rattle.world_model.specs.World.{World, node_count}
use Rattle.world_laws.proofs.CancelMoves.{CancelTravels}
use Rattle.world_laws.proofs.Changes.{Changes, made-after, read-same, sent, stayed}
use Rattle.world_laws.proofs.Following.{withdrawal}
use Rattle.world_laws.proofs.Pairs.{is_for_waiting}
use Rattle.world_laws.specs.Callers.{CallHolds, HasCall, HasCallOrNone, IsBetween, call_sight}
use Rattle.world_laws.specs.Cancels.{AStrike, Nothing, cancel_sight, may_follow}
use Rattle.world_laws.specs.Invariant.{HoldsOwing}
use Rattle.world_laws.specs.Places.{Beside, CallPlace, CancelInHand, InAsk, IsHeld, IsInHand, NoCancel, SentByPlace, SentByRange, ToLeader, Waits}
use Rattle.world_laws.specs.Sights.{directory_of, frames_to, is_born_in, node_of}
use Rattle.route_laws.proofs.cancels.Interrupts.{interrupts, itself-is-list-map, noted_node, nothing-sent-by, sent-once}
use Rattle.route_laws.proofs.cancels.Struck.{IsStruckCall}
use Rattle.route_laws.proofs.cancels.Travels.{HoldsStill}

-- a withdrawal on its way to the leader may follow a call from wherever that waits
to-leader-follows : (place : CallPlace) → is_for_waiting place ≡ true → may_follow ToLeader place ≡ true
to-leader-follows InAsk h = refl
to-leader-follows IsInHand h = refl
to-leader-follows (SentByPlace to) h = refl
to-leader-follows (SentByRange to) h = refl
to-leader-follows (IsHeld name) h = refl
to-leader-follows (Waits name) h = refl
to-leader-follows place h = absurd (false≢true h)

somewhere-to-leader : ToLeader ≡ NoCancel → ⊥
somewhere-to-leader e = cc

somewhere-in-hand : CancelInHand ≡ NoCancel → ⊥
somewhere-in-hand e = cc

-- ---- to the leader

module _ (script : Script) (w w' : World) (hand : List Held) (b : Beside) (p : ℕ) (low : 1 ≤ p)
    (high : p ≤ node_count script) (holds : HoldsOwing script w hand (AStrike p) b) (call : Call) (name : Name)
    (s : IsStruckCall p (cancel_sight w hand b p) call name) (other : p ≢ 1)
    (c : Changes script p w w' (noted_node (node_of w p)) []
    ((1, frames.Cancel (withdrawal (cancel_sight w hand b p) call)) ∷ []) []) where
  abbrev cancel : Asked
  cancel = withdrawal (cancel_sight w hand b p) call

  abbrev sends : List (ℕ × Frame)
  sends = (1, frames.Cancel cancel) ∷ []

  abbrev n : Node
  n = noted_node (node_of w p)

  same-directory-now : directory_of w' ≡ directory_of w
  same-directory-now = read-same script p w w' n [] sends [] c (λ (m : Node). m.leader.directory) refl 1

  travels : CancelTravels p NoCancel ToLeader cancel w w' hand hand
  travels =
      record {
        streams = λ at sender. record {
          left = frames_to w at sender;
          taken = refl;
          put = made-after script p w w' n [] sends [] c (λ t s fs. fs) (λ t s. itself-is-list-map) at sender
              ∙ ap (λ fs. fs ++ sent p sends at sender)
              (stayed script p w w' n [] sends [] c (λ t s fs. fs) (λ t s. itself-is-list-map) tt at sender)
              ∙ ap (λ fs. frames_to w at sender ++ fs)
              (sent-once (frames.Cancel cancel) (nat_eq at 1) (nat_eq sender p));
        };
        lists = λ m. record {
          left = held_for (directory_of w) m;
          taken = refl;
          put = ap (λ d. held_for d m) same-directory-now ∙ sym (append-nil (held_for (directory_of w) m));
        };
        hands = record { left = hand; taken = refl; put = sym (append-nil hand) };
      }

  -- The leader is told, and no strike is owed any more.
  pub leader-told : HoldsStill script w' hand Nothing b
  leader-told =
      interrupts script w w' hand hand b p low high holds call name s sends c ToLeader travels
      (to-leader-follows (b.call p)) somewhere-to-leader (refl, tt) (inl (refl, s.number_is), tt)
      ((λ e. other (sym e)), tt)
      (record { taken = tt; from_others = tt; sent = (refl, tt); by_another = (other, tt) }) (λ m. refl)

-- ---- at the leader

module _ (script : Script) (w w' : World) (b : Beside) (high : 1 ≤ node_count script)
    (holds : HoldsOwing script w [] (AStrike 1) b) (call : Call) (name : Name)
    (s : IsStruckCall 1 (cancel_sight w [] b 1) call name)
    (c : Changes script 1 w w' (noted_node (node_of w 1)) [] [] []) where
  abbrev cancel_first : Asked
  cancel_first = withdrawal (cancel_sight w [] b 1) call

  abbrev first_noted : Node
  first_noted = noted_node (node_of w 1)

  same-directory-first : directory_of w' ≡ directory_of w
  same-directory-first = read-same script 1 w w' first_noted [] [] [] c (λ (m : Node). m.leader.directory) refl 1

  travels-first : CancelTravels 1 NoCancel CancelInHand cancel_first w w' [] (Request cancel_first ∷ [])
  travels-first =
      record {
        streams = λ at sender. record {
          left = frames_to w at sender;
          taken = refl;
          put = made-after script 1 w w' first_noted [] [] [] c (λ t s fs. fs) (λ t s. itself-is-list-map) at sender
              ∙ ap (λ fs. fs ++ sent 1 [] at sender)
              (stayed script 1 w w' first_noted [] [] [] c (λ t s fs. fs) (λ t s. itself-is-list-map) tt at sender)
              ∙ ap (λ fs. frames_to w at sender ++ fs) (nothing-sent-by (nat_eq sender 1));
        };
        lists = λ m. record {
          left = held_for (directory_of w) m;
          taken = refl;
          put = ap (λ d. held_for d m) same-directory-first ∙ sym (append-nil (held_for (directory_of w) m));
        };
        hands = record { left = []; taken = refl; put = refl };
      }

  has-first : HasCall script 1 (is_born_in w) (call_sight w [] b 1) call
  has-first =
      let h : CallHolds script 1 (is_born_in w) (call_sight w [] b 1) = holds.calls 1 (omega arith) high
      in subst (λ (o : Option Call). HasCallOrNone script 1 (is_born_in w) (call_sight w [] b 1) o) s.under_way h.call

  -- the leader asks nobody, and nothing else is in its hand
  follows-first : (place : CallPlace) → b.call 1 ≡ place → is_for_waiting place ≡ true
      → may_follow CancelInHand place ≡ true
  follows-first InAsk e h = absurd (subst (λ z. IsBetween 1 (is_born_in w) z) e has-first.between refl)
  follows-first IsInHand e h = refl
  follows-first (SentByPlace to) e h = refl
  follows-first (SentByRange to) e h = refl
  follows-first (IsHeld m) e h = refl
  follows-first (Waits m) e h = refl
  follows-first place e h = absurd (false≢true h)

  -- It is in the leader's hand, and no strike is owed any more.
  pub first-told : HoldsStill script w' (Request cancel_first ∷ []) Nothing b
  first-told =
      interrupts script w w' [] (Request cancel_first ∷ []) b 1 (omega arith) high holds call name s [] c CancelInHand
      travels-first (follows-first (b.call 1) refl) somewhere-in-hand tt tt tt
      (record { taken = tt; from_others = tt; sent = tt; by_another = tt }) (λ m. refl)
