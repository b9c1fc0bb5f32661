-- What holds of a name when the leader asks a node that leaves for all that it holds.
use Rattle.std.proofs.Common.{◌≡◌, ◌≢◌, ◌≤◌, ℕ, Bool, true, false, if◌then◌else◌, List, [], ◌∷◌, ◌++◌, nat_eq, Option, Some, None, is_some, option_map, refl, ap, sym, subst, ◌∙◌, append-nil}
use Rattle.std.specs.List.{AllByRecursion}
use Rattle.std.proofs.lemmas.Bool.{ne_eqb, false≢true}
use Rattle.pico_base.specs.declared.numbers.Name.{Name}
use Rattle.pico_base.specs.declared.script.Script.{Script}
use Rattle.node_model.specs.Directory.{Place, place_without, items_of, destination_of}
use Rattle.world_laws.specs.Plays.{Hold, Has, Lacks, Done, PlayStep, AllGo, play_step, play_on, believed, is_there, News, finds_place}
use Rattle.world_laws.specs.Names.{NameSight, NameHolds, PlaysTo, HasMakerThatStays, IsItemFor, belief_of, maker_tells, is_nowhere}
use Rattle.world_laws.proofs.Played.{play-append}
use Rattle.rule_laws.proofs.ends.Directories.{known-without, items-without, bound-without, nowhere-without, there-without}

-- that all goes is still to be played, if this is so
abbrev pub last_if : Bool → List PlayStep
last_if true = AllGo ∷ []
last_if false = []

-- what is seen of it afterwards: its place is this one, but where that is the node; and the node doesn't stay
abbrev pub asked_for : NameSight → ℕ → Option Place → (ℕ → List News) → NameSight
asked_for x c place needs =
    record x {
      place = option_map (place_without c) place;
      stays = λ q. if nat_eq q c then false else x.stays q;
      steps = λ q. x.steps q ++ last_if (nat_eq q c);
      news = needs;
    }

-- It is known as it was believed. Where it isn't known, the node neither made it nor has it.
pub record IsAskedFor (x : NameSight) (c : ℕ) (place : Option Place) (needs : ℕ → List News) : Type 0 where
  pub belief_is : believed place (maker_tells x x.maker) ≡ belief_of x
  pub items_are : items_of place ≡ items_of x.place
  pub bound_is : destination_of place ≡ destination_of x.place
  pub is_used : is_some place ≡ true → x.used ≡ true
  pub unknown : place ≡ None → x.place ≡ None
  pub elsewhere : place ≡ None → is_there c (belief_of x) ≡ false
  pub not_made : place ≡ None → x.used ≡ true → x.maker ≢ Some c
  pub found : place ≡ None → (q : ℕ) → 2 ≤ q → finds_place false (needs q) ≡ true

all-go : (hold : Hold) → play_step hold AllGo ≡ Some Done
all-go Has = refl
all-go Lacks = refl
all-go Done = refl

-- all goes at the end of a play
pub plays-asked : (t : Bool) (begins : Hold) (steps : List PlayStep) (has : Bool) → PlaysTo begins steps has
    → PlaysTo begins (steps ++ last_if t) (if t then false else has)
plays-asked true begins steps has old =
    record {
      last = Done;
      plays = play-append steps (AllGo ∷ []) (Some begins)
          ∙ ap (play_on (AllGo ∷ [])) old.plays
          ∙ ap (play_on []) (all-go old.last);
      agrees = refl;
    }
plays-asked false begins steps has old =
    subst (λ ss. PlaysTo begins ss has) (sym (append-nil steps)) old

found-by : (o : Option Place) (c : ℕ) (ns : List News) → (o ≡ None → finds_place false ns ≡ true)
    → finds_place (is_some (option_map (place_without c) o)) ns ≡ true
found-by None c ns f = f refl
found-by (Some place) c ns f = refl

none-without : (o : Option Place) (c : ℕ) → option_map (place_without c) o ≡ None → o ≡ None
none-without None c e = refl
none-without (Some place) c e = absurd (false≢true (sym (ap is_some e)))

module _ (script : Script) (pids : ℕ → ℕ) (born : ℕ → Bool) (name : Name) (x : NameSight) (c : ℕ)
    (place : Option Place) (needs : ℕ → List News) (other : c ≢ 1) (s : IsAskedFor x c place needs)
    (h : NameHolds script pids born name x) where
  abbrev y : NameSight
  y = asked_for x c place needs

  tells-same : (m : Option ℕ) → maker_tells y m ≡ maker_tells x m
  tells-same None = refl
  tells-same (Some q) = refl

  there-now : (q : ℕ) → (if nat_eq q c then false else is_there q (belief_of x)) ≡ is_there q (belief_of y)
  there-now q =
      sym (ap (λ ts. is_there q (believed (option_map (place_without c) place) ts)) (tells-same x.maker)
      ∙ there-without q c place (maker_tells x x.maker)
      (λ e. ap (is_there c) s.belief_is ∙ s.elsewhere e)
      ∙ ap (λ b. if nat_eq q c then false else is_there q b) s.belief_is)

  still-stays : HasMakerThatStays x.maker x.stays → x.maker ≢ Some c → HasMakerThatStays x.maker y.stays
  still-stays m d =
      record {
        node = m.node;
        makes = m.makes;
        stays = ap (λ t. if t then false else x.stays m.node) (ne_eqb m.node c (λ e. d (m.makes ∙ ap Some e)))
            ∙ m.stays;
      }

  -- all holds of the name when the node is asked
  pub name-asked-for : NameHolds script pids born name y
  name-asked-for =
      record {
        parts = h.parts;
        callers = h.callers;
        made = h.made;
        place_fits = h.place_fits;
        tables = h.tables;
        streams = h.streams;
        kept = h.kept;
        in_hand = h.in_hand;
        known = λ e. s.is_used (sym (known-without c place) ∙ e);
        believed = λ used.
            ap (λ ts. is_nowhere (believed (option_map (place_without c) place) ts)) (tells-same x.maker)
            ∙ nowhere-without c place (maker_tells x x.maker)
            ∙ ap is_nowhere s.belief_is ∙ h.believed used;
        plays = λ q low. subst (λ has. PlaysTo (x.begins q) (x.steps q ++ last_if (nat_eq q c)) has) (there-now q)
            (plays-asked (nat_eq q c) (x.begins q) (x.steps q) (is_there q (belief_of x)) (h.plays q low));
        leader = h.leader
            ∙ ap (λ t. if t then false else is_there 1 (belief_of x)) (sym (ne_eqb 1 c (λ e. other (sym e))))
            ∙ there-now 1;
        told = h.told;
        found = λ q low. found-by place c (needs q) (λ e. s.found e q low);
        unplaced = λ used e.
            let none = none-without place c e
            in still-stays (h.unplaced used (s.unknown none)) (s.not_made none used);
        ranged = h.ranged;
        leased = h.leased;
        bound = λ to e. h.bound to (sym s.bound_is ∙ sym (bound-without c place) ∙ e);
        items = subst (λ is. AllByRecursion (IsItemFor name) is)
            (sym (items-without c place ∙ s.items_are)) h.items;
      }
