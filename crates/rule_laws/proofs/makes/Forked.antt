-- A fork that is due, with a number that nothing has: what its entry leaves of the kernel and of the places.
use Rattle.std.proofs.Common.{◌≡◌, ◌≢◌, ℕ, ◌<◌, ◌&&◌, nat_lt, Bool, true, false, List, [], Some, refl, ap, sym, ◌∙◌, inl, inr, arith}
use Rattle.std.specs.List.{list_any}
use Rattle.std.proofs.lemmas.Bool.{cases_eq, false≢true, ltb-true}
use Rattle.pico_base.specs.declared.call.Call.TheVariants as calls
use Rattle.pico_base.specs.declared.numbers.Kind.{Kind}
use Rattle.pico_base.specs.declared.numbers.Kind.TheVariants as kinds
use Rattle.pico_base.specs.declared.numbers.Name.TheVariants.{Proc}
use Rattle.pico_base.specs.declared.reply.Reply.TheVariants as replies
use Rattle.pico_base.specs.declared.script.Event.{Event}
use Rattle.pico_base.specs.declared.script.Script.{Script}
use Rattle.number_maps.specs.Maps.{is_used}
use Rattle.kernel_model.specs.Fitting.{Place, child_vars, place_after, places_after}
use Rattle.kernel_model.specs.Footprint.{used_of}
use Rattle.kernel_model.specs.Kernel.{Kernel, living_at}
use Rattle.kernel_model.specs.Numbers.{is_positive_u32, is_u32}
use Rattle.kernel_model.specs.Row.{Alive}
use Rattle.kernel_model.specs.Script.{IsSoundScript}
use Rattle.entry_laws.proofs.Bodies.{body-living}
use Rattle.entry_laws.proofs.ForkedOnce.{fork-line-once}
use Rattle.entry_laws.proofs.Fresh.{Forks, forks}
use Rattle.entry_laws.proofs.History.{ForkPlaces, fork-places}
use Rattle.entry_laws.proofs.Kin.{forks-leave}
use Rattle.entry_laws.proofs.Numbers.{used-others}
use Rattle.entry_laws.proofs.Others.{goes}
use Rattle.entry_laws.proofs.Places.{ForkPasses, goes-on}
use Rattle.node_model.specs.Bodies.{Body, Living as LivingBody, body_in}
use Rattle.node_model.specs.Caller.{caller_place}
use Rattle.node_model.specs.Kinds.{get_named}
use Rattle.node_model.specs.Leases.{takes_number}
use Rattle.node_model.specs.Entries.{entry_by}
use Rattle.world_model.specs.Lives.{is_new_row}
use Rattle.world_model.specs.Node.{Node}
use Rattle.world_model.specs.World.{World}
use Rattle.world_laws.specs.Places.{Beside, DeedPlace}
use Rattle.world_laws.specs.Sights.{is_born_in, node_of}
use Rattle.world_laws.specs.Names.{NameHolds, forker, held_as, name_sight}
use Rattle.world_laws.specs.Invariant.{Holds}
use Rattle.world_laws.proofs.NameFacts.{held-here}
use Rattle.rule_laws.proofs.own.Bodies.{process-body-is}
use Rattle.rule_laws.proofs.makes.ForkKin.{ForkLeaves}
use Rattle.rule_laws.proofs.makes.Forkers.{IsForkedFrom, first-not-forked, forked-from, names_in_line, same-lines, same-test}
use Rattle.rule_laws.proofs.makes.Sources.{Origin, Source}
use Rattle.rule_laws.proofs.makes.Taken.{number-positive, number-unused}
use Rattle.rule_laws.proofs.makes.Unforked.{fork-due, fork-line, from-here, names-line, not-forked, of-no-other}
use Rattle.rule_laws.proofs.makes.WithinLines.{after-shrinks}

-- a fork takes a number of a process
pub fork-kind : (kind : Kind) (block : ℕ) → takes_number kind (calls.Fork block) ≡ true → kinds.Proc ≡ kind
fork-kind kinds.Proc block h = refl
fork-kind kinds.Msg block h = absurd (false≢true h)
fork-kind kinds.Sem block h = absurd (false≢true h)

module _ (script : Script) (sound : IsSoundScript script) (w : World) (b : Beside) (holds : Holds script w [] b) (p : ℕ)
    (block : ℕ) (kind : Kind) (number : ℕ) (numbers : List ℕ) (o : Origin) (e : Event)
    (s : Source script w b p (calls.Fork block) kind number numbers o e) where
  abbrev n : Node
  n = node_of w p

  abbrev k : Kernel
  k = b.kernel

  abbrev pid : ℕ
  pid = b.pids p

  -- where the history is
  abbrev pub fork-place : Place
  fork-place = caller_place script p s.caller

  -- its row is the kernel's
  pub own-row : body_in k (Proc pid) ≡ LivingBody s.row
  own-row =
      let name : NameHolds script b.pids (is_born_in w) (Proc pid) (name_sight script w [] b (Proc pid)) =
      holds.names (Proc pid)
      in sym (process-body-is k (b.body (Proc pid)) pid name.parts)
      ∙ same-in-some (b.body (Proc pid)) (LivingBody s.row)
      (sym (name.tables p ∙ ap (λ (d : DeedPlace). held_as d (b.body (Proc pid)) p) s.deed
      ∙ held-here p (b.body (Proc pid)))
      ∙ ap (λ (q : ℕ). get_named n.deeds (Proc q)) (sym s.birth.pid_is) ∙ s.has_row)
    where
      same-in-some : (a c : Body) → Some a ≡ Some c → a ≡ c
      same-in-some a c h = cc

  unused : is_used k.used_processes number ≡ false
  unused =
      ap (λ y. is_used (used_of k y) number) (fork-kind kind block s.takes.takes)
      ∙ number-unused script w b holds p (calls.Fork block) kind number numbers o e s

  positive : is_positive_u32 number ≡ true
  positive = number-positive script w b holds p (calls.Fork block) kind number numbers o e s

  -- the kernel's side
  pub fork-entry : Forks k pid block number s.row
  fork-entry = forks k pid block number s.row s.may own-row unused positive

  places-fork : ForkPlaces script b.places pid block number fork-place
      (places_after script b.places (entry_by p pid (calls.Fork block) (replies.Num number)) fork-place)
  places-fork = fork-places script b.places p pid block number fork-place fork-entry.apart

  -- the new process lives, and has no children
  new-living : (a : Alive) × (living_at fork-entry.next number ≡ Some a) × (is_new_row a.row ≡ true)
  new-living =
      let h = body-living fork-entry.next number _ fork-entry.child_is
      in (h.alive, h.lives, ap is_new_row h.row_is)

  some-number : number ≢ 0
  some-number none = omega (arith, none, low)
    where
      first-of : (a c : Bool) → (a && c) ≡ true → a ≡ true
      first-of true c h = refl
      first-of false c h = absurd (false≢true h)

      low : 0 < number
      low = ltb-true 0 number (first-of (nat_lt 0 number) (is_u32 number) positive)

  parents-apart : (c : ℕ) → b.pids c ≢ 0 → forker script c ≢ block
  parents-apart c some same =
      elim (cases_eq c 1) [
        | inl first ↦
            let from : IsForkedFrom script p block =
            from-here script sound w b holds p block kind number numbers o e s
            in let low = from.low
            in first-not-forked script sound block (omega (arith, low)) (ap (forker script) (sym first) ∙ same)
        | inr later ↦
            (holds.pids.forked c some later).0
            (ap b.pids same ∙ not-forked script sound w b holds p block kind number numbers o e s)
      ]

  passed-line : list_any (names_in_line block)
      (place_after fork-place (calls.Fork block) (Some (replies.Num number))).left ≡ false
  passed-line =
      let line : ForkPasses fork-place block number = fork-line script sound w b holds p block kind number numbers o e s
      in let from : IsForkedFrom script p block = from-here script sound w b holds p block kind number numbers o e s
      in ap (list_any (names_in_line block)) line.after
      ∙ same-lines block line.rest
      ∙ fork-line-once script block p s.caller line.line line.rest sound from.low from.high line.left
      (sym (same-test block line.line.call) ∙ names-line script sound w b holds p block kind number numbers o e s)

  -- What it leaves.
  pub fork-leaves : ForkLeaves script k b.places b.pids p block number s.row (child_vars fork-place) fork-entry.next
      (places_after script b.places (entry_by p pid (calls.Fork block) (replies.Num number)) fork-place)
  fork-leaves =
      record {
        valid = s.may.valid;
        forked = s.birth.forked;
        unforked = not-forked script sound w b holds p block kind number numbers o e s;
        from_here = from-here script sound w b holds p block kind number numbers o e s;
        absent = fork-entry.absent;
        some_child = some-number;
        lived = record { alive = s.may.alive; lives = s.may.lives };
        is_there = λ c some. let family = holds.families c some in (family.process, family.is);
        parents = parents-apart;
        apart = holds.pids.apart;
        others = goes k pid (calls.Fork block) (replies.Num number) fork-entry.next s.may.valid s.may.alone
            fork-entry.enters.makes;
        lives = fork-entry.caller;
        child_lives = record { alive = new-living.0; lives = new-living.1 };
        child_new = new-living.2;
        fork = forks-leave k pid block number s.row fork-entry own-row;
        used = λ q d. used-others k pid (calls.Fork block) (replies.Num number) (Proc number) fork-entry.next
            fork-entry.enters (Proc q) (λ same. d (process-same q number same));
        was = fork-place;
        place_was = s.there;
        now = place_after fork-place (calls.Fork block) (Some (replies.Num number));
        place_is = places-fork.parent;
        begins = places-fork.child_is;
        places_stay = places-fork.others;
        more_left = goes-on script p s.caller (calls.Fork block) (replies.Num number)
            (fork-due script sound w b holds p block kind number numbers o e s) refl;
        shrinks = after-shrinks fork-place (calls.Fork block) (replies.Num number);
        passed = passed-line;
        of_no_other = of-no-other script sound w b holds p block kind number numbers o e s;
        from_block = λ c names. forked-from script sound block c
            (let from : IsForkedFrom script p block = from-here script sound w b holds p block kind number numbers o e s
            in let low = from.low in omega (arith, low)) names;
      }
    where
      process-same : (a c : ℕ) → Proc a ≡ Proc c → a ≡ c
      process-same a c h = cc
