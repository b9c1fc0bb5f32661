-- A node is asked for a queue or set that it holds: the deed goes back to the leader.
use Rattle.std.proofs.Common.{◌≡◌, ◌≢◌, ℕ, ◌≤◌, Bool, true, false, ◌&&◌, ◌||◌, not, cond, if◌then◌else◌, List, [], ◌∷◌, ◌++◌, filter, flat_map, nat_eq, Option, Some, None, is_some, option_map, refl, ap, sym, subst, ◌∙◌, inl, inr, arith}
use Rattle.std.proofs.lemmas.Bool.{cases_eq, eqb-true, eq-eqb, ne_eqb, false≢true}
use Rattle.pico_base.specs.declared.numbers.Name.{Name}
use Rattle.pico_base.specs.declared.numbers.Name.TheVariants.{Proc}
use Rattle.pico_base.specs.declared.script.Script.{Script}
use Rattle.pico_base.specs.declared.script.Event.TheVariants as events
use Rattle.rpc_frame.specs.declared.frame.Frame.{Frame}
use Rattle.rpc_frame.specs.declared.frame.Frame.TheVariants as frames
use Rattle.node_model.specs.Kinds.{is_object, get_named, without_named}
use Rattle.node_model.specs.Directory.{place_of, maker, stays, held_for, is_parcel_with}
use Rattle.node_model.specs.Bodies.{Body}
use Rattle.node_model.specs.Spelling.{pack}
use Rattle.world_model.specs.Node.{Node, is_born, is_leader}
use Rattle.world_model.specs.Step.{Step}
use Rattle.world_model.specs.Moves.{give_back, take_recall}
use Rattle.world_model.specs.Census.{brings}
use Rattle.world_model.specs.World.{World, world_after}
use Rattle.world_laws.specs.Places.{InTable, InGiveBack, Beside, deed_in, Unmade}
use Rattle.world_laws.specs.Sights.{node_of, frames_to, directory_of, stage_of, is_born_in}
use Rattle.world_laws.specs.Plays.{steps_if, Has, Lacks, PlayStep, Goes, plays, play, begin, is_there, is_checkpoint_of, has_any, placed_in, news}
use Rattle.world_laws.specs.Names.{may_be_at, NameSight, name_sight, NameHolds, held_at, held_as, comes_to, is_stream_of, is_kept_for, is_hand_place, node_in, IsBringer, IsItemWith, OneIf, PlaysTo, belief_of, range_steps_of, forker, is_maker}
use Rattle.world_laws.specs.Families.{NodeHolds}
use Rattle.world_laws.specs.Cancels.{Nothing}
use Rattle.world_laws.specs.Invariant.{Holds, MayBe}
use Rattle.world_laws.proofs.Named.{name-cases, same-name, other-name, get-without-same-name, get-without-other-name}
use Rattle.world_laws.proofs.Stays.{IsMore, SameName, name-stays}
use Rattle.world_laws.proofs.Changes.{Changes, sent, filter-is-list-map, flat_map-is-list-map, made-after, made-same, only-stayed, stayed, directory-same}
use Rattle.world_laws.proofs.LeftAlone.{LeavesName, same-directory, name-left-alone}
use Rattle.world_laws.proofs.Steps.{KeepsAs, Heads, world_without, take-steps, changes-by-take}
use Rattle.world_laws.proofs.NameFacts.{play-goes, begin-has, begins-without, has_left, IsHeldAt, held-there, held-elsewhere, holder-is-born, no-checkpoint-of-object, one-if-sent, plays-by}
use Rattle.world_laws.proofs.Heads.{head-is, head-may-be, head-from-another, rest-stays, others-stay, kept-of-sent}
use Rattle.rule_laws.proofs.Quiet.{IsQuiet, same-but-places, quiet-keeps, quiet-born}
use Rattle.rule_laws.proofs.Nodes.{node-with-objects, processes-without, born-stage, object-is-no-process}

-- ---- the name

-- what is seen of it afterwards, where what is left to be played at the node is this
abbrev pub recalled : NameSight → ℕ → Frame → List PlayStep → NameSight
recalled x p frame rest =
    record x {
      deed = InGiveBack p;
      held = λ h. None;
      brought = λ to sender. cond (nat_eq to 1 && nat_eq sender p) (frame ∷ []) [];
      begins = λ h. if nat_eq h p then Lacks else x.begins h;
      steps = λ h. if nat_eq h p then rest else x.steps h;
    }

module _ (script : Script) (pids : ℕ → ℕ) (born : ℕ → Bool) (name : Name) (x : NameSight)
    (h : NameHolds script pids born name x) (p : ℕ) (other : p ≢ 1) (object : is_object name ≡ true)
    (deed : x.deed ≡ InTable p) (rest : List PlayStep) (begins : x.begins p ≡ Has)
    (steps : x.steps p ≡ Goes ∷ rest) where
  nowhere-held : is_some (x.held 1) ≡ false
  nowhere-held =
      ap is_some
      (h.tables 1 ∙ ap (λ d. held_as d x.body 1) deed
      ∙ held-elsewhere p 1 x.body (λ e. other (sym e)))

  plays-on : 2 ≤ p → PlaysTo Lacks rest (is_there p (belief_of x))
  plays-on low =
      let old : PlaysTo (x.begins p) (x.steps p) (is_there p (belief_of x)) = h.plays p low
      in let gone = play-goes Has old.last rest
      (ap (λ ss. play Has ss) (sym steps) ∙ ap (λ b. play b (x.steps p)) (sym begins) ∙ old.plays)
      in record { last = old.last; plays = gone.1; agrees = old.agrees }

  plays-at : (q : ℕ) → 2 ≤ q
      → PlaysTo (if nat_eq q p then Lacks else x.begins q) (if nat_eq q p then rest else x.steps q)
      (is_there q (belief_of x))
  plays-at q low =
      plays-by (nat_eq q p) Lacks (x.begins q) rest (x.steps q) (is_there q (belief_of x))
      (λ e. subst (λ y. PlaysTo Lacks rest (is_there y (belief_of x)))
      (sym (eqb-true q p e))
      (plays-on (subst (λ y. 2 ≤ y) (eqb-true q p e) low)))
      (λ e. h.plays q low)

  used : x.used ≡ false → ⊥
  used unused = in-table (sym deed ∙ h.made.1 unused)
    where
      in-table : InTable p ≡ Unmade → ⊥
      in-table e = cc

  -- all holds of the name with its deed on the way back
  pub name-recalled : NameHolds script pids born name (recalled x p (frames.GiveBack (pack name x.body)) rest)
  name-recalled =
      record {
        parts = h.parts;
        callers = h.callers;
        made = (λ e. absurd (not-unmade e), λ u. absurd (used u));
        place_fits = object;
        tables = λ q. refl;
        streams = λ to sender. one-if-sent (nat_eq to 1 && nat_eq sender p)
            (IsBringer pids name x.body (InGiveBack p)) (frames.GiveBack (pack name x.body)) refl;
        kept = λ pid. subst (λ d. OneIf (is_kept_for (forker script) pids d pid)
            (IsItemWith name x.body (pids (node_in d))) (x.kept pid)) deed (h.kept pid);
        in_hand = subst (λ d. OneIf (is_hand_place d) (IsItemWith name x.body (pids (node_in d))) x.hand) deed
            h.in_hand;
        known = h.known;
        believed = h.believed;
        plays = plays-at;
        leader = sym nowhere-held ∙ h.leader;
        told = h.told;
        found = h.found;
        unplaced = h.unplaced;
        ranged = h.ranged;
        leased = h.leased;
        bound = h.bound;
        items = h.items;
      }
    where
      not-unmade : InGiveBack p ≡ Unmade → ⊥
      not-unmade e = cc

-- ---- the event

module _ (script : Script) (w : World) (b : Beside) (holds : Holds script w [] b) (p : ℕ) (name : Name)
    (rest : List Frame) (h : Heads script w p 1 (frames.Recall name) rest) where
  abbrev x : NameSight
  x = name_sight script w [] b name

  abbrev n : Node
  n = node_of w p

  known : NameHolds script b.pids (is_born_in w) name x
  known = holds.names name

  other : p ≢ 1
  other e = head-from-another script w p 1 (frames.Recall name) rest h (is_born_in w) holds.frames_fit (sym e)

  may : MayBe script (is_born_in w) p 1 (frames.Recall name)
  may = head-may-be script w p 1 (frames.Recall name) rest h (is_born_in w) holds.frames_fit

  object : is_object name ≡ true
  object = may.1

  low-node : 2 ≤ p
  low-node = let low = h.low in omega (arith, low, other)

  -- the play finds the deed here
  plays-first : plays x.used b.call name (frames_to w p 1) ≡ Goes ∷ plays x.used b.call name rest
  plays-first =
      ap (λ fs. plays x.used b.call name fs) (head-is script w p 1 (frames.Recall name) rest h)
      ∙ ap (λ t. steps_if t Goes ++ plays x.used b.call name rest) (same-name name name refl)

  begins-here : x.begins p ≡ Has
  begins-here =
      let old : PlaysTo (x.begins p) (x.steps p) (is_there p (belief_of x)) = known.plays p low-node
      in let gone = play-goes (x.begins p) old.last (plays x.used b.call name rest)
      (ap (λ ss. play (x.begins p) ss) (sym plays-first) ∙ old.plays)
      in gone.0

  no-checkpoint-there : (to sender : ℕ) → filter (is_checkpoint_of name) (frames_to w to sender) ≡ []
  no-checkpoint-there to sender =
      no-checkpoint-of-object (forker script) b.pids name x.body x.deed to sender (frames_to w to sender)
      (ap (λ o. may_be_at o x.deed) (sym object) ∙ known.place_fits)
      (known.streams to sender)

  and-false : (t : Bool) → (t && false) ≡ false
  and-false true = refl
  and-false false = refl

  comes-not : (q : ℕ) → comes_to script w name q ≡ false
  comes-not q =
      ap (λ fs. not (nat_eq (forker script q) 1) && has_any fs) (no-checkpoint-there q (forker script q))
      ∙ and-false (not (nat_eq (forker script q) 1))

  not-left : has_left (stage_of w p) ≡ false
  not-left =
      let both = begin-has (stage_of w p) (is_some (held_at w name p)) (comes_to script w name p) begins-here
      in both.0

  or-false : (t : Bool) → (t || false) ≡ t
  or-false true = refl
  or-false false = refl

  here : is_some (held_at w name p) ≡ true
  here =
      let both = begin-has (stage_of w p) (is_some (held_at w name p)) (comes_to script w name p) begins-here
      in sym (ap (λ t. is_some (held_at w name p) || t) (comes-not p) ∙ or-false (is_some (held_at w name p))) ∙ both.1

  some-body : (o : Option Body) → is_some o ≡ true → (v : Body) × (o ≡ Some v)
  some-body (Some v) e = (v, refl)
  some-body None e = absurd (false≢true e)

  found : (v : Body) × (held_at w name p ≡ Some v)
  found = some-body (held_at w name p) here

  abbrev body : Body
  body = found.0

  body-there : get_named n.deeds name ≡ Some body
  body-there = found.1

  at-table : IsHeldAt x.deed x.body p body
  at-table = held-there x.deed x.body p body (sym (known.tables p) ∙ body-there)

  node-holds : NodeHolds script b.pids (is_born_in w) p n
  node-holds = holds.nodes p h.low h.high

  born : is_born n ≡ true
  born = holder-is-born p n name body n.stage node-holds.holds body-there

  abbrev after : Step
  after = give_back n name body

  from-leader : (leads is_one : Bool) → leads ≡ false → is_born n ≡ true → (not leads && (is_born n && true)) ≡ true
  from-leader leads is_one l g = rw (l, g) refl

  rule : take_recall n 1 name ≡ Some after
  rule =
      ap (λ t. if t && is_object name then option_map (give_back n name) (get_named n.deeds name) else None)
      (from-leader (is_leader n) true (ne_eqb n.number 1 (λ e. other (sym node-holds.number ∙ e))) born)
      ∙ ap (λ t. if t then option_map (give_back n name) (get_named n.deeds name) else None) object
      ∙ ap (option_map (give_back n name)) body-there

  -- what it changes

  abbrev next : World
  next = world_after (world_without w p 1 rest) p after

  abbrev moved : Beside
  moved = record b { deed = deed_in b.deed name (InGiveBack p) }

  abbrev takes : List (ℕ × Frame)
  takes = (1, frames.Recall name) ∷ []

  changes : Changes script p w next after.node takes after.sends []
  changes =
      let low = h.low
      in let high = h.high
      in changes-by-take script w holds.shape p 1 (frames.Recall name) rest after h
      (record { low = omega arith; high = omega arith }, tt)

  same-there : directory_of next ≡ directory_of w
  same-there = directory-same script p w next after.node takes after.sends [] changes other

  quiet : IsQuiet script w next b (deed_in b.deed name (InGiveBack p)) p after.node takes after.sends
  quiet =
      record {
        caller = record { number = refl; pid = refl; stage = refl; caller = refl; leases = refl };
        queue_keys = refl;
        set_keys = refl;
        directory = same-but-places (directory_of w) (directory_of next) same-there holds.leading;
        node = node-with-objects script b.pids (is_born_in w) p n (without_named n.deeds name) _
            (born-stage n.stage born) not-left (processes-without n.deeds name object) node-holds;
        deeds = λ pid. ap (λ t. if t then InGiveBack p else b.deed (Proc pid)) (object-is-no-process name pid object);
        plain_taken = (refl, tt);
        plain_sent = (refl, tt);
        no_birth_taken = (refl, tt);
        no_birth_sent = (refl, tt);
        no_lease_taken = λ kind. (refl, tt);
        no_lease_sent = λ kind. (refl, tt);
        of_no_call = λ y. (refl, tt);
        sent_of_no_call = λ y. (refl, tt);
        no_cancel_taken = λ y. (refl, tt);
        no_cancel_sent = λ y. (refl, tt);
        may_be_sent = (refl, tt);
        to_others = ((λ e. other (sym e)), tt);
      }

  held-now : (q : ℕ) → None ≡ held_at next name q
  held-now q =
      elim (cases_eq q p) [
        | inl e ↦
            subst (λ y. None ≡ held_at next name y) (sym e)
            (sym (ap (λ (m : Node). get_named m.deeds name) changes.here ∙ get-without-same-name n.deeds name))
        | inr d ↦
            sym (ap (λ (m : Node). get_named m.deeds name) (changes.others q d)
            ∙ known.tables q ∙ ap (λ y. held_as y x.body q) at-table.deed_is ∙ held-elsewhere p q x.body d)
      ]

  comes-now : (q : ℕ) → comes_to script next name q ≡ comes_to script w name q
  comes-now q =
      ap (λ fs. not (nat_eq (forker script q) 1) && has_any fs)
      (made-same script p w next after.node takes after.sends [] changes
      (λ t s fs. filter (is_checkpoint_of name) fs) (λ t s. filter-is-list-map (is_checkpoint_of name)) (refl, tt)
      (refl, tt) q (forker script q))

  begins-now : (q : ℕ)
      → (if nat_eq q p then Lacks else x.begins q)
      ≡ begin (stage_of next q) (is_some (held_at next name q)) (comes_to script next name q)
  begins-now q =
      elim (cases_eq q p) [
        | inl e ↦
            ap (λ t. if t then Lacks else x.begins q) (eq-eqb q p e)
            ∙ sym (begins-without (stage_of next q) (is_some (held_at next name q)) (comes_to script next name q)
            (subst (λ y. has_left (stage_of next y) ≡ false) (sym e)
            (ap (λ (m : Node). has_left m.stage) changes.here ∙ not-left))
            (ap (λ o. is_some o || comes_to script next name q) (sym (held-now q))
            ∙ comes-now q ∙ comes-not q))
        | inr d ↦
            ap (λ t. if t then Lacks else x.begins q) (ne_eqb q p d)
            ∙ ap (begin (stage_of w q) (is_some (held_at w name q))) (sym (comes-now q))
            ∙ sym (ap
            (λ (m : Node). begin m.stage (is_some (get_named m.deeds name)) (comes_to script next name q))
            (changes.others q d))
      ]

  abbrev rest-steps : List PlayStep
  rest-steps = plays x.used b.call name (changes.left p 1)

  steps-were : x.steps p ≡ Goes ∷ rest-steps
  steps-were =
      rest-stays script p 1 w next after.node (frames.Recall name) after.sends [] changes
      (λ t s fs. plays x.used b.call name fs) (λ t s. flat_map-is-list-map _)
      ∙ ap (λ t. (steps_if t Goes ++ []) ++ rest-steps) (same-name name name refl)

  steps-now : (q : ℕ) → (if nat_eq q p then rest-steps else x.steps q) ≡ plays x.used b.call name (frames_to next q 1)
  steps-now q =
      elim (cases_eq q p) [
        | inl e ↦
            ap (λ t. if t then rest-steps else x.steps q) (eq-eqb q p e)
            ∙ subst (λ y. rest-steps ≡ plays x.used b.call name (frames_to next y 1)) (sym e)
            (sym (only-stayed script p w next after.node takes after.sends [] changes
            (λ t s fs. plays x.used b.call name fs) (λ t s. flat_map-is-list-map _) (refl, tt) p 1))
        | inr d ↦
            ap (λ t. if t then rest-steps else x.steps q) (ne_eqb q p d)
            ∙ sym (only-stayed script p w next after.node takes after.sends [] changes
            (λ t s fs. plays x.used b.call name fs) (λ t s. flat_map-is-list-map _) (refl, tt) q 1
            ∙ others-stay script p 1 w next after.node (frames.Recall name) after.sends [] changes
            (λ t s fs. plays x.used b.call name fs) (λ t s. flat_map-is-list-map _) q 1 (inl d))
      ]

  brought-before : (to sender : ℕ) → x.brought to sender ≡ []
  brought-before to sender =
      subst (λ d. OneIf (is_stream_of (forker script) d to sender) (IsBringer b.pids name x.body d)
      (x.brought to sender)) at-table.deed_is (known.streams to sender)

  brings-it : brings name (frames.GiveBack (pack name body)) ≡ true
  brings-it = same-name name name refl

  brought-now : (to sender : ℕ)
      → cond (nat_eq to 1 && nat_eq sender p) (frames.GiveBack (pack name x.body) ∷ []) []
      ≡ filter (brings name) (frames_to next to sender)
  brought-now to sender =
      sym (made-after script p w next after.node takes after.sends [] changes
      (λ t s fs. filter (brings name) fs) (λ t s. filter-is-list-map (brings name)) to sender
      ∙ ap (λ fs. fs ++ filter (brings name) (sent p after.sends to sender))
      (stayed script p w next after.node takes after.sends [] changes
      (λ t s fs. filter (brings name) fs) (λ t s. filter-is-list-map (brings name)) (refl, tt) to sender
      ∙ brought-before to sender)
      ∙ kept-of-sent (brings name) (frames.GiveBack (pack name body)) brings-it (nat_eq to 1) (nat_eq sender p)
      ∙ ap (λ v. cond (nat_eq to 1 && nat_eq sender p) (frames.GiveBack (pack name v) ∷ []) []) at-table.body_is)

  sight-now : SameName (recalled x p (frames.GiveBack (pack name x.body)) rest-steps)
      (name_sight script next [] moved name)
  sight-now =
      record {
        place = ap (λ y. place_of y name) (sym same-there);
        maker = ap (λ y. maker y name) (sym same-there);
        stays = λ q. ap (λ y. stays y q) (sym same-there);
        used = refl;
        part = refl;
        body = refl;
        deed = sym (ap (λ t. if t then InGiveBack p else b.deed name) (same-name name name refl));
        held = held-now;
        brought = brought-now;
        kept = λ pid. ap (λ y. filter (is_parcel_with name) (held_for y (Proc pid))) (sym same-there);
        hand = refl;
        begins = begins-now;
        steps = steps-now;
        ranges = λ q. sym (made-same script p w next after.node takes after.sends [] changes
            (λ t s fs. flat_map (range_steps_of x.used b.call name) fs) (λ t s. flat_map-is-list-map _) (refl, tt)
            (refl, tt) q 1);
        placed = λ q. sym (made-same script p w next after.node takes after.sends [] changes
            (λ t s fs. placed_in name fs) (λ t s. flat_map-is-list-map _) (refl, tt) (refl, tt) 1 q);
        news = λ q. ap (λ y. news name (x.used && is_maker (maker y name) q) (frames_to w 1 q)) (sym same-there)
            ∙ sym (made-same script p w next after.node takes after.sends [] changes
            (λ t s fs. news name (x.used && is_maker (maker (directory_of next) name) s) fs)
            (λ t s. flat_map-is-list-map _) (refl, tt) (refl, tt) 1 q);
      }

  others : (m : Name) → m ≢ name → LeavesName w next [] [] b moved p after.node changes.left m
  others m d =
      record {
        directory = same-directory (directory_of w) (directory_of next) same-there m;
        used_is = refl;
        part_is = refl;
        body_is = refl;
        deed_is = ap (λ t. if t then InGiveBack p else b.deed m) (other-name name m (λ e. d (sym e)));
        held_is = get-without-other-name n.deeds name m d;
        begins_is = λ holds_it comes. refl;
        hand_is = refl;
        steps_are = λ used q. refl;
        ranges_are = λ used q. refl;
      }

  names : (m : Name) → NameHolds script b.pids (is_born_in next) m (name_sight script next [] moved m)
  names m =
      elim (name-cases m name) [
        | inl e ↦
            subst (λ y. NameHolds script b.pids (is_born_in next) y (name_sight script next [] moved y)) (sym e)
            (name-stays script b.pids (is_born_in w) (is_born_in next) name _ _ more sight-now
            (name-recalled script b.pids (is_born_in w) name x known p other object at-table.deed_is rest-steps
            begins-here steps-were))
        | inr d ↦
            name-stays script b.pids (is_born_in w) (is_born_in next) m _ _ more
            (name-left-alone script p w next after.node takes after.sends [] changes [] [] b moved m (others m d)
            (other-name m name d, tt) (other-name m name d, tt)) (holds.names m)
      ]
    where
      more : IsMore (is_born_in w) (is_born_in next)
      more =
          quiet-born script w next [] Nothing b (deed_in b.deed name (InGiveBack p))
          p after.node takes after.sends h.low
          h.high holds changes quiet

  -- The deed is in a GiveBack of this node now.
  pub recall-keeps : KeepsAs script w (events.Take p 1) moved
  recall-keeps =
      record {
        next = next;
        is_step = take-steps script w p 1 (frames.Recall name) rest after holds.shape h rule refl;
        holds = quiet-keeps script w next [] Nothing b (deed_in b.deed name (InGiveBack p))
            p after.node takes after.sends
            h.low h.high holds changes quiet names;
      }
