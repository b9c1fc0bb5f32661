-- An end that gives the parent's `waitpid` its reply, as the end where nobody waits and then that call at once.
use Rattle.std.proofs.Common.{◌≡◌, ◌≢◌, ◌∙◌, ℕ, Bool, true, false, nat_eq, List, [], ◌∷◌, ◌++◌, map, Option, Some, None, refl, sym, ap, subst, inl, inr}
use Rattle.std.specs.Prelude.{if◌then◌else◌, Contains}
use Rattle.std.proofs.lemmas.Bool.{ne_eqb}
use Rattle.std.proofs.lemmas.List.Elements.{Contains-push_cases}
use Rattle.std.proofs.lemmas.List.Sums.{fold-append}
use Rattle.pico_base.specs.declared.call.Call.{Call}
use Rattle.pico_base.specs.declared.call.Call.TheVariants as calls
use Rattle.pico_base.specs.declared.numbers.Name.{Name}
use Rattle.pico_base.specs.declared.numbers.Name.TheVariants.{Proc, Msg, Sem}
use Rattle.pico_base.specs.declared.reply.Ending.{Ending}
use Rattle.pico_base.specs.declared.reply.Errno.TheVariants.{Echild}
use Rattle.pico_base.specs.declared.reply.Reply.TheVariants as replies
use Rattle.pico_base.specs.declared.signal.Sig.TheVariants.{Chld}
use Rattle.rpc_frame.specs.declared.deed.Parcel.{Parcel}
use Rattle.number_maps.specs.Maps.{Numbered, get, put}
use Rattle.number_maps.proofs.LookUps.{get-put-same, get-put-apart}
use Rattle.number_maps.proofs.Order.{same-from-nat_eq}
use Rattle.kernel_model.specs.Row.{EndedChild, Family, Row, Waited, Found, NotYet, NoChild, ended_child, family_after_end, ignores_children, wait, without_ended}
use Rattle.kernel_model.specs.Signals.{raise}
use Rattle.waiting_model.specs.Linear.{at_once}
use Rattle.waiting_model.specs.Marks.{Alive, awaited_children, with_family}
use Rattle.waiting_model.specs.Kernel.{Process}
use Rattle.waiting_model.specs.Kernel as kernel
use Rattle.waiting_model.specs.ProcessCalls.{after_waiting, bury_found, found_for, process_after_end, raise_chld, wakes_of_parent}
use Rattle.node_model.specs.Kinds.{get_named, put_all, put_pair}
use Rattle.node_model.specs.Bodies.{Body, Living, Ended, Gone, AQueue, ASet, Removed, Deeds, whole_process}
use Rattle.node_model.specs.Carrying.{on_row, reap}
use Rattle.node_model.specs.Parcels.{Committed, all_gone, commit_exit, committed, ending_of, lets_end, parked_in}
use Rattle.serve_laws.specs.Ends.{EndsWakeInLine, WakesOrNot, WakesThen}
use Rattle.serve_laws.specs.Served.{MakesOwn}
use Rattle.serve_laws.proofs.Committed.{first-there, free_alive, second-there}
use Rattle.serve_laws.proofs.Effects.{found_there}
use Rattle.serve_laws.proofs.KernelEnds.{living-same}

some-same : {A : Type 0} (x y : A) → Some x ≡ Some y → x ≡ y
some-same x y h = cc

-- ---- the parent's row

-- its row once it has noted the end, and perhaps taken a child
abbrev noted : Row → Family → Row
noted row family = record
    { signals = if ignores_children row then row.signals else raise row.signals Chld; family = family }

abbrev bereft_family : Row → ℕ → Ending → Family
bereft_family row pid ending = family_after_end row.family pid ending (ignores_children row)

raised-row : (b : Bool) (a : Alive)
    → (raise_chld b a).row
    ≡ record { signals = if b then a.row.signals else raise a.row.signals Chld; family = a.row.family }
raised-row true a = refl
raised-row false a = refl

module _ (row : Row) (pid : ℕ) (ending : Ending) where
  abbrev gone_on : Option Call → Waited → Alive
  gone_on waits found =
      raise_chld (ignores_children row)
      (after_waiting (with_family (parked_in waits row) (bereft_family row pid ending)) found)

  noted-still : (waits : Option Call) → (gone_on waits NotYet).row ≡ noted row (bereft_family row pid ending)
  noted-still waits = raised-row (ignores_children row) _

  noted-none : (waits : Option Call) → (gone_on waits NoChild).row ≡ noted row (bereft_family row pid ending)
  noted-none waits = raised-row (ignores_children row) _

  noted-found : (waits : Option Call) (child : ℕ) (how : Ending)
      → (gone_on waits (Found child how)).row ≡ noted row (without_ended child (bereft_family row pid ending))
  noted-found waits child how = raised-row (ignores_children row) _

-- ---- deeds that are written one after another

-- it doesn't matter what the parent had in between, nor what a child had that is gone
puts-agree : (m : Numbered Body) (pid parent child q : ℕ) (x y l l0 g : Body) → (nat_eq pid child ≡ false → y ≡ x)
    → get (put (put (put m pid y) parent l) child g) q
    ≡ get (put (put (put (put m pid x) parent l0) parent l) child g) q
puts-agree m pid parent child q x y l l0 g same = at_child (nat_eq q child) refl
  where
    at_pid : (b : Bool) → nat_eq q pid ≡ b → nat_eq q child ≡ false → nat_eq q parent ≡ false
        → get (put m pid y) q ≡ get (put m pid x) q
    at_pid true is other away =
        subst (λ (n : ℕ). get (put m pid y) n ≡ get (put m pid x) n) (sym (same-from-nat_eq q pid is))
        (get-put-same m pid y
        ∙ ap Some (same (subst (λ (n : ℕ). nat_eq n child ≡ false) (same-from-nat_eq q pid is) other))
        ∙ sym (get-put-same m pid x))
    at_pid false apart other away = get-put-apart m pid q y apart ∙ sym (get-put-apart m pid q x apart)

    at_parent : (b : Bool) → nat_eq q parent ≡ b → nat_eq q child ≡ false
        → get (put (put m pid y) parent l) q ≡ get (put (put (put m pid x) parent l0) parent l) q
    at_parent true is other =
        subst (λ (n : ℕ). get (put (put m pid y) parent l) n ≡ get (put (put (put m pid x) parent l0) parent l) n)
        (sym (same-from-nat_eq q parent is))
        (get-put-same (put m pid y) parent l ∙ sym (get-put-same (put (put m pid x) parent l0) parent l))
    at_parent false apart other =
        get-put-apart (put m pid y) parent q l apart ∙ at_pid (nat_eq q pid) refl other apart
        ∙ sym (get-put-apart (put (put m pid x) parent l0) parent q l apart
        ∙ get-put-apart (put m pid x) parent q l0 apart)

    at_child : (b : Bool) → nat_eq q child ≡ b
        → get (put (put (put m pid y) parent l) child g) q
        ≡ get (put (put (put (put m pid x) parent l0) parent l) child g) q
    at_child true is =
        subst (λ (n : ℕ). get (put (put (put m pid y) parent l) child g) n
        ≡ get (put (put (put (put m pid x) parent l0) parent l) child g) n) (sym (same-from-nat_eq q child is))
        (get-put-same (put (put m pid y) parent l) child g
        ∙ sym (get-put-same (put (put (put m pid x) parent l0) parent l) child g))
    at_child false apart =
        get-put-apart (put (put m pid y) parent l) child q g apart
        ∙ at_parent (nat_eq q parent) refl apart
        ∙ sym (get-put-apart (put (put (put m pid x) parent l0) parent l) child q g apart)

-- nor does the same once more
put-again : (m : Numbered Body) (parent q : ℕ) (l : Body)
    → get (put m parent l) q ≡ get (put (put m parent l) parent l) q
put-again m parent q l = by (nat_eq q parent) refl
  where
    by : (b : Bool) → nat_eq q parent ≡ b → get (put m parent l) q ≡ get (put (put m parent l) parent l) q
    by true is =
        subst (λ (n : ℕ). get (put m parent l) n ≡ get (put (put m parent l) parent l) n)
        (sym (same-from-nat_eq q parent is)) (get-put-same m parent l ∙ sym (get-put-same (put m parent l) parent l))
    by false apart = sym (get-put-apart (put m parent l) parent q l apart)

-- the same by names
deeds-agree : (d : Deeds) (pid parent child : ℕ) (x y l l0 g : Body) → (nat_eq pid child ≡ false → y ≡ x)
    → (name : Name)
    → get_named (put_all d ((Proc pid, y) ∷ (Proc parent, l) ∷ (Proc child, g) ∷ [])) name
    ≡ get_named
    (put_all (put_all d ((Proc pid, x) ∷ (Proc parent, l0) ∷ [])) ((Proc parent, l) ∷ (Proc child, g) ∷ [])) name
deeds-agree d pid parent child x y l l0 g same (Proc q) = puts-agree d.processes pid parent child q x y l l0 g same
deeds-agree d pid parent child x y l l0 g same (Msg id) = refl
deeds-agree d pid parent child x y l l0 g same (Sem id) = refl

deeds-again : (d : Deeds) (pid parent : ℕ) (x l : Body) (name : Name)
    → get_named (put_all d ((Proc pid, x) ∷ (Proc parent, l) ∷ [])) name
    ≡ get_named (put_all (put_all d ((Proc pid, x) ∷ (Proc parent, l) ∷ [])) ((Proc parent, l) ∷ [])) name
deeds-again d pid parent x l (Proc q) = put-again (put d.processes pid x) parent q l
deeds-again d pid parent x l (Msg id) = refl
deeds-again d pid parent x l (Sem id) = refl

-- ---- what a waiting parent finds

abbrev is_not_yet : Waited → Bool
is_not_yet (Found child ending) = false
is_not_yet NotYet = true
is_not_yet NoChild = false

differ : {B : Type 0} → true ≡ false → B
differ h = absurd (cc)

-- it is what its call finds at once
waited : (row : Row) (family : Family) (parent : ℕ) (call : Call) (found : Waited) → is_not_yet found ≡ false
    → row.family ≡ family → found_for family (awaited_children (Some call)) ≡ found
    → on_row row parent (at_once call) ≡ reap row found
waited row family parent (calls.WaitPid which nohang) found not same is =
    ap (λ (f : Family). reap row (wait f which)) same ∙ ap (reap row) is
waited row family parent call found not same is = differ (ap is_not_yet is ∙ not)

kept-apart : (row : Row) (pid parent : ℕ) (ending : Ending) (child : ℕ) (how : Ending) → pid ≢ parent
    → ((c : ℕ) (e : Ending) → Contains row.family.ended (ended_child c e) → parent ≢ c) → (b : Bool)
    → Contains (family_after_end row.family pid ending b).ended (ended_child child how) → parent ≢ child
kept-apart row pid parent ending child how apart others true among = others child how among
kept-apart row pid parent ending child how apart others false among =
    elim (Contains-push_cases row.family.ended (ended_child pid ending) (ended_child child how) among) [
      | inl before ↦ others child how before
      | inr now ↦ λ same. apart (ap (λ (e : EndedChild). e.pid) now ∙ sym same)
    ]

-- a child that it finds is another process than itself
found-apart : (row : Row) (pid parent : ℕ) (ending : Ending) (call : Call) (child : ℕ) (how : Ending) → pid ≢ parent
    → ((c : ℕ) (e : Ending) → Contains row.family.ended (ended_child c e) → parent ≢ c)
    → found_for (bereft_family row pid ending) (awaited_children (Some call)) ≡ Found child how
    → nat_eq child parent ≡ false
found-apart row pid parent ending (calls.WaitPid which nohang) child how apart others is =
    ne_eqb child parent
    (λ same.
    kept-apart row pid parent ending child how apart others (ignores_children row)
    (found_there (free_alive (record row { family = bereft_family row pid ending })) which child how is) (sym same))
found-apart row pid parent ending call child how apart others is = absurd (cc)

-- ---- what the end comes to

module _ (parcel : Parcel) (bodies : Numbered Body) (row : Row) (apart : parcel.pid ≢ parcel.parent) where
  abbrev pid : ℕ
  pid = parcel.pid

  abbrev parent : ℕ
  parent = parcel.parent

  abbrev ending : Ending
  ending = ending_of parcel.call

  abbrev gone : List (Name × Body)
  gone = all_gone (map (λ e. e.0) bodies)

  abbrev kept : Process
  kept = process_after_end (ignores_children row) ending

  abbrev left : Row
  left = noted row (bereft_family row pid ending)

  -- the processes of the kernel that has these alone, by what the parent finds
  abbrev after : Option Call → Waited → Numbered Process
  after waits found =
      put (bury_found (put [] pid kept) found) parent (kernel.Living (gone_on row pid ending waits found))

  abbrev comes_to : Option Call → Waited → Committed
  comes_to waits found = committed parcel bodies waits (Living row) (wakes_of_parent parent found)

  still-apart : nat_eq pid parent ≡ false
  still-apart = ne_eqb pid parent apart

  -- where it finds none the process and the parent are as where it doesn't wait
  plain-changes : (ps : Numbered Process) (w : Process) (now : Body)
      → ps ≡ put (put [] pid kept) parent w → whole_process (Some w) ≡ now
      → gone ++ (Proc pid, whole_process (get ps pid)) ∷ (Proc parent, whole_process (get ps parent)) ∷ []
      ≡ gone ++ (Proc pid, whole_process (Some kept)) ∷ (Proc parent, now) ∷ []
  plain-changes ps w now is so =
      ap (λ (qs : Numbered Process).
      gone ++ (Proc pid, whole_process (get qs pid)) ∷ (Proc parent, whole_process (get qs parent)) ∷ []) is
      ∙ ap (λ (x : Body).
      gone ++ (Proc pid, x) ∷ (Proc parent, whole_process (get (put (put [] pid kept) parent w) parent)) ∷ [])
      (first-there pid parent kept w still-apart)
      ∙ ap (λ (y : Body). gone ++ (Proc pid, whole_process (Some kept)) ∷ (Proc parent, y) ∷ [])
      (second-there pid parent kept w ∙ so)

  abbrev is_plain : List (Name × Body)
  is_plain = gone ++ (Proc pid, whole_process (Some kept)) ∷ (Proc parent, Living left) ∷ []

  abbrev finds : Option Call → Waited
  finds waits = found_for (bereft_family row pid ending) (awaited_children waits)

  changes-still : (waits : Option Call) → finds waits ≡ NotYet → (comes_to waits NotYet).changes ≡ is_plain
  changes-still waits is =
      plain-changes (after waits (finds waits)) (kernel.Living (gone_on row pid ending waits NotYet)) (Living left)
      (ap (after waits) is) (ap Living (noted-still row pid ending waits))

  changes-none : (waits : Option Call) → finds waits ≡ NoChild → (comes_to waits NoChild).changes ≡ is_plain
  changes-none waits is =
      plain-changes (after waits (finds waits)) (kernel.Living (gone_on row pid ending waits NoChild)) (Living left)
      (ap (after waits) is) (ap Living (noted-none row pid ending waits))

  -- where it finds a child, that is gone, and may be the process itself
  abbrev took : ℕ → Row
  took child = noted row (without_ended child (bereft_family row pid ending))

  abbrev with_child_gone : ℕ → Process → Numbered Process
  with_child_gone child w = put (put (put [] pid kept) child kernel.Gone) parent w

  abbrev own_part : ℕ → Process → Body
  own_part child w = whole_process (get (with_child_gone child w) pid)

  own-part-is : (child : ℕ) (w : Process) → nat_eq pid child ≡ false → own_part child w ≡ whole_process (Some kept)
  own-part-is child w other =
      ap whole_process
      (get-put-apart (put (put [] pid kept) child kernel.Gone) parent pid w still-apart
      ∙ get-put-apart (put [] pid kept) child pid kernel.Gone other ∙ get-put-same [] pid kept)

  abbrev found_list : ℕ → Process → List (Name × Body)
  found_list child w =
      gone ++ (Proc pid, own_part child w) ∷ (Proc parent, Living (took child)) ∷ (Proc child, Gone) ∷ []

  changes-found : (waits : Option Call) (child : ℕ) (how : Ending) → nat_eq child parent ≡ false
      → finds waits ≡ Found child how
      → (comes_to waits (Found child how)).changes
      ≡ found_list child (kernel.Living (gone_on row pid ending waits (Found child how)))
  changes-found waits child how other is =
      let w : Process = kernel.Living (gone_on row pid ending waits (Found child how))
      in let ps : Numbered Process = with_child_gone child w
      in let m : Numbered Process = put (put [] pid kept) child kernel.Gone
      in ap (λ (qs : Numbered Process).
      gone ++ (Proc pid, whole_process (get qs pid)) ∷ (Proc parent, whole_process (get qs parent))
      ∷ (Proc child, whole_process (get qs child)) ∷ []) (ap (after waits) is)
      ∙ ap (λ (y : Body).
      gone ++ (Proc pid, own_part child w) ∷ (Proc parent, y) ∷ (Proc child, whole_process (get ps child)) ∷ [])
      (ap whole_process (get-put-same m parent w) ∙ ap Living (noted-found row pid ending waits child how))
      ∙ ap (λ (y : Body).
      gone ++ (Proc pid, own_part child w) ∷ (Proc parent, Living (took child)) ∷ (Proc child, y) ∷ [])
      (ap whole_process
      (get-put-apart m parent child w other ∙ get-put-same (put [] pid kept) child kernel.Gone))

  -- ---- with the deeds that are held

  module _ (deeds : Deeds) (waits : Call) where
    abbrev held : Deeds
    held = put_all deeds gone

    written : (changes more : List (Name × Body)) → changes ≡ gone ++ more → put_all deeds changes ≡ put_all held more
    written changes more is = ap (put_all deeds) is ∙ fold-append put_pair deeds gone more

    abbrev bereft : Committed
    bereft = comes_to None NotYet

    abbrev plain_two : List (Name × Body)
    plain_two = (Proc pid, whole_process (Some kept)) ∷ (Proc parent, Living left) ∷ []

    bereft-is : put_all deeds bereft.changes ≡ put_all held plain_two
    bereft-is = written bereft.changes plain_two (changes-still None refl)

    bereft-parent : get_named (put_all deeds bereft.changes) (Proc parent) ≡ Some (Living left)
    bereft-parent =
        ap (λ (d : Deeds). get_named d (Proc parent)) bereft-is
        ∙ get-put-same (put held.processes pid (whole_process (Some kept))) parent (Living left)

    wakes-none : finds (Some waits) ≡ NoChild
        → WakesThen parcel waits deeds (comes_to (Some waits) NoChild) bereft
        (record { caller = 0; ticket = 0; pid = parent; reply = replies.Fail Echild })
    wakes-none is = record {
      row = left;
      ended = bereft-parent;
      left = left;
      waited = waited left (bereft_family row pid ending) parent waits NoChild refl refl is;
      after = λ name.
          ap (λ (d : Deeds). get_named d name)
          (written (comes_to (Some waits) NoChild).changes plain_two (changes-none (Some waits) is))
          ∙ deeds-again held pid parent (whole_process (Some kept)) (Living left) name
          ∙ sym (ap (λ (d : Deeds). get_named (put_all d ((Proc parent, Living left) ∷ [])) name) bereft-is);
    }

    wakes-found : (child : ℕ) (how : Ending) → nat_eq child parent ≡ false → finds (Some waits) ≡ Found child how
        → WakesThen parcel waits deeds (comes_to (Some waits) (Found child how)) bereft
        (record { caller = 0; ticket = 0; pid = parent; reply = replies.Child child how })
    wakes-found child how other is =
        let w : Process = kernel.Living (gone_on row pid ending (Some waits) (Found child how))
        in record {
          row = left;
          ended = bereft-parent;
          left = took child;
          waited = waited left (bereft_family row pid ending) parent waits (Found child how) refl refl is;
          after = λ name.
              ap (λ (d : Deeds). get_named d name)
              (written (comes_to (Some waits) (Found child how)).changes _
              (changes-found (Some waits) child how other is))
              ∙ deeds-agree held pid parent child (whole_process (Some kept)) (own_part child w) (Living (took child))
              (Living left) Gone (own-part-is child w) name
              ∙ sym (ap (λ (d : Deeds).
              get_named (put_all d ((Proc parent, Living (took child)) ∷ (Proc child, Gone) ∷ [])) name) bereft-is);
        }

    -- whatever the parent finds
    wakes-by : ((c : ℕ) (e : Ending) → Contains row.family.ended (ended_child c e) → parent ≢ c) → (found : Waited)
        → finds (Some waits) ≡ found
        → WakesOrNot parcel waits deeds (comes_to (Some waits) found) bereft (wakes_of_parent parent found)
    wakes-by others NotYet is = changes-still (Some waits) is ∙ sym (changes-still None refl)
    wakes-by others NoChild is = wakes-none is
    wakes-by others (Found child how) is =
        wakes-found child how (found-apart row pid parent ending waits child how apart others is) is

-- ---- the law

concludes : (parcel : Parcel) (waits : Call) (deeds : Deeds) (x y c bereft : Committed) → Some y ≡ Some bereft
    → Some x ≡ Some c → WakesOrNot parcel waits deeds x y x.wakes → WakesOrNot parcel waits deeds c bereft c.wakes
concludes parcel waits deeds x y c bereft without given h =
    subst (λ (z : Committed). WakesOrNot parcel waits deeds z bereft z.wakes) (some-same x c given)
    (subst (λ (z : Committed). WakesOrNot parcel waits deeds x z x.wakes) (some-same y bereft without) h)

living-case : (parcel : Parcel) (bodies : Numbered Body) (waits : Call) (row : Row) (deeds : Deeds)
    (c bereft : Committed)
    → parcel.pid ≢ parcel.parent
    → ((child : ℕ) (how : Ending) → Contains row.family.ended (ended_child child how) → parcel.parent ≢ child)
    → (b : Bool) → lets_end parcel.pid (Living row) ≡ b
    → commit_exit parcel bodies None (Living row) ≡ Some bereft
    → commit_exit parcel bodies (Some waits) (Living row) ≡ Some c → WakesOrNot parcel waits deeds c bereft c.wakes
living-case parcel bodies waits row deeds c bereft apart others true lets without given =
    let found : Waited = finds parcel bodies row apart (Some waits)
    in let x : Committed = comes_to parcel bodies row apart (Some waits) found
    in let y : Committed = comes_to parcel bodies row apart None NotYet
    in let now : Some x ≡ Some c = rw lets at given
    in let before : Some y ≡ Some bereft = rw lets at without
    in concludes parcel waits deeds x y c bereft before now
    (wakes-by parcel bodies row apart deeds waits others found refl)
living-case parcel bodies waits row deeds c bereft apart others false lets without given =
    let none : None ≡ Some c = rw lets at given in absurd (cc)

own-others : (who : ℕ) (row : Row) → MakesOwn who (Living row) → (child : ℕ) (how : Ending)
    → Contains row.family.ended (ended_child child how) → who ≢ child
own-others who row makes child how among =
    let same : row ≡ makes.row = living-same row makes.row makes.lives
    in makes.apart child how (subst (λ (r : Row). Contains r.family.ended (ended_child child how)) same among)

-- then the process is gone
abbrev only_gone : Parcel → Numbered Body → Committed
only_gone parcel bodies =
    record {
      changes =
          all_gone (map (λ e. e.0) bodies)
          ++ (Proc parcel.pid, whole_process (get (put [] parcel.pid kernel.Gone) parcel.pid)) ∷ [];
      wakes = [];
    }

-- a parent that doesn't live is woken by nothing
over-case : (parcel : Parcel) (bodies : Numbered Body) (waits : Call) (deeds : Deeds) (c bereft : Committed)
    → Some (only_gone parcel bodies) ≡ Some bereft → Some (only_gone parcel bodies) ≡ Some c
    → WakesOrNot parcel waits deeds c bereft c.wakes
over-case parcel bodies waits deeds c bereft without given =
    concludes parcel waits deeds (only_gone parcel bodies) (only_gone parcel bodies) c bereft without given refl

-- the end as nobody waited, and then that call at once
pub ends-wake-in-line : EndsWakeInLine
ends-wake-in-line parcel bodies waits (Living row) deeds c bereft apart makes without given =
    living-case parcel bodies waits row deeds c bereft apart (own-others parcel.parent row (makes refl))
    (lets_end parcel.pid (Living row)) refl without given
ends-wake-in-line parcel bodies waits (Ended e) deeds c bereft apart makes without given =
    over-case parcel bodies waits deeds c bereft without given
ends-wake-in-line parcel bodies waits Gone deeds c bereft apart makes without given =
    over-case parcel bodies waits deeds c bereft without given
ends-wake-in-line parcel bodies waits (AQueue q) deeds c bereft apart makes without given =
    over-case parcel bodies waits deeds c bereft without given
ends-wake-in-line parcel bodies waits (ASet s) deeds c bereft apart makes without given =
    over-case parcel bodies waits deeds c bereft without given
ends-wake-in-line parcel bodies waits Removed deeds c bereft apart makes without given =
    over-case parcel bodies waits deeds c bereft without given
