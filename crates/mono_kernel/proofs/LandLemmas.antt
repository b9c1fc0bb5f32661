-- A change through the table's entry lands in the table.
use Rattle.std.proofs.Common.{◌≡◌, ◌∙◌, ℕ, true, Some, None, refl, sym, ap}
use Rattle.std.specs.Ordering.{nat_cmp}
use Rattle.std.specs.Map.{keys_of}
use Rattle.std.specs.BTreeMap.{is_at}
use Rattle.std.proofs.lemmas.Map.{keys-set_value}
use Rattle.std.proofs.lemmas.Map.Steps.{set_value_same}
use Rattle.pico_base.specs.declared.reply.Ending.{Ending}
use Rattle.number_maps.specs.Maps.{Numbered, get, put, without}
use Rattle.kernel_model.specs.Row.{Waited, lists}
use Rattle.waiting_model.specs.Marks.{Alive}
use Rattle.waiting_model.specs.Kernel.{Process, Living, Ended, Gone, where_living}
use Rattle.waiting_model.specs.ProcessCalls.{parent_after_fork, found_after_end, parent_after_end}
use Rattle.mono_kernel.specs.declared.process.Change.{Change}
use Rattle.number_maps.specs.Rising.{IsRising}
use Rattle.mono_kernel.specs.Process.{after_change}
use Rattle.mono_kernel.specs.Change.{with_child_there, lists_in, found_in}
use Rattle.mono_kernel.specs.Table.{IfLiving}
use Rattle.number_maps.proofs.Changes.{set_value-put, remove-put, without-remove}
use Rattle.number_maps.proofs.Rising.{rising-put}

-- a value put in a living process's place, by a number that is its own
lands : (ps : Numbered Process) (n pid : ℕ) (f : Alive → Alive) (v w : Process) → n ≡ pid → get ps n ≡ Some v
    → ((a : Alive) → v ≡ Living a → w ≡ Living (f a)) → IfLiving ps pid (λ a. put ps n w ≡ put ps pid (Living (f a)))
lands ps n pid f (Living a) w same there is = rw (← same, there) (ap (put ps n) (is a refl))
lands ps n pid f (Ended ending) w same there is = rw (← same, there) tt
lands ps n pid f Gone w same there is = rw (← same, there) tt

-- a change in place is a change of the table
pub change-lands : (ps : Numbered Process) (n pid : ℕ) (change : Change) (v w : Process) → n ≡ pid
    → get ps n ≡ Some v → w ≡ where_living (after_change change) v
    → IfLiving ps pid (λ a. put ps n w ≡ put ps pid (Living (after_change change a)))
change-lands ps n pid change v w same there is =
    lands ps n pid (after_change change) v w same there
    (λ a living. is ∙ ap (where_living (after_change change)) living)

-- so is a new child
pub child-lands : (ps : Numbered Process) (n pid child : ℕ) (v w : Process) → n ≡ pid → get ps n ≡ Some v
    → w ≡ with_child_there child v
    → IfLiving ps pid (λ a. put ps n w ≡ put ps pid (Living (parent_after_fork a child)))
child-lands ps n pid child v w same there is =
    lands ps n pid (λ a. parent_after_fork a child) v w same there
    (λ a living. is ∙ ap (with_child_there child) living)

-- so is the end of a child
pub end-lands : (ps : Numbered Process) (n pid child : ℕ) (ending : Ending) (v w : Process) → n ≡ pid
    → get ps n ≡ Some v → w ≡ where_living (λ a. parent_after_end a child ending) v
    → IfLiving ps pid (λ a. put ps n w ≡ put ps pid (Living (parent_after_end a child ending)))
end-lands ps n pid child ending v w same there is =
    lands ps n pid (λ a. parent_after_end a child ending) v w same there
    (λ a living. is ∙ ap (where_living (λ a. parent_after_end a child ending)) living)

-- what was asked of the living process holds of its place
pub lists-there : (ps : Numbered Process) (pid child : ℕ) (v : Process) → get ps pid ≡ Some v
    → IfLiving ps pid (λ a. lists a.row.family child ≡ true) → lists_in child v
lists-there ps pid child (Living a) there can = rw there at can
lists-there ps pid child (Ended ending) there can = tt
lists-there ps pid child Gone there can = tt

-- and what is found at its place is what the process finds
pub found-lands : (ps : Numbered Process) (pid child : ℕ) (ending : Ending) (v : Process) (w : Waited)
    → get ps pid ≡ Some v
    → w ≡ found_in child ending v
    → IfLiving ps pid (λ a. w ≡ found_after_end a child ending)
found-lands ps pid child ending (Living a) w there is = rw there is
found-lands ps pid child ending (Ended e) w there is = rw there tt
found-lands ps pid child ending Gone w there is = rw there tt

-- a value written again changes nothing
pub unchanged-lands : (ps : Numbered Process) (pid : ℕ) (v w : Process) → IsRising ps → get ps pid ≡ Some v → w ≡ v
    → put ps pid w ≡ ps
unchanged-lands ps pid v w rising there is =
    ap (put ps pid) is ∙ sym (set_value-put ps pid v v rising there)
    ∙ set_value_same (is_at (nat_cmp pid)) ps v there

-- a value in the place of another leaves the numbers
pub numbers-stay : (ps : Numbered Process) (pid : ℕ) (v w : Process) → IsRising ps → get ps pid ≡ Some v
    → keys_of (put ps pid w) ≡ keys_of ps
numbers-stay ps pid v w rising there =
    ap keys_of (sym (set_value-put ps pid w v rising there)) ∙ keys-set_value (is_at (nat_cmp pid)) ps w

-- a number that is put and taken out again
pub put-and-taken : (ps : Numbered Process) (pid : ℕ) (v : Process) → IsRising ps → get ps pid ≡ None
    → without (put ps pid v) pid ≡ ps
put-and-taken ps pid v rising fresh =
    without-remove (put ps pid v) pid (rising-put ps pid v rising) ∙ remove-put ps pid v fresh
