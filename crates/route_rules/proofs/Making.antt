-- A new set is made for a key.
use Rattle.std.proofs.Common.{◌≡◌, ◌∙◌, ℕ, Bool, true, false, cond, length, replicate, Some, Ok, Err, refl, sym, ap}
use Rattle.std.proofs.lemmas.List.{length-replicate}
use Rattle.std.specs.Option.{option_map}
use Rattle.pico_base.specs.declared.numbers.Kind.TheVariants.{Sem}
use Rattle.pico_base.specs.declared.numbers.Name.{Name}
use Rattle.pico_base.specs.declared.reply.Errno.TheVariants.{Einval}
use Rattle.pico_base.specs.declared.script.Script.{Script}
use Rattle.rpc_frame.specs.declared.asked.Asked.{Asked}
use Rattle.kernel_model.specs.SemaphoreSet.{SemaphoreSet, set_of, new_semaphore, new_set, is_bad_count}
use Rattle.world_model.specs.Node.{Node, Leader}
use Rattle.world_model.specs.Step.{Step}
use Rattle.world_model.specs.Numbers.{take_number}
use Rattle.world_model.specs.Keys.{bind, create_set, make_set}
use Rattle.number_rules.specs.Taking.{IsNewSet, taken}
use Rattle.route_rules.specs.Making.{create_sized, put_in_place}

sized-by : (bad : Bool) (count : ℕ) (set : SemaphoreSet)
    → cond bad (Err Einval) (Ok (set_of (replicate count new_semaphore))) ≡ Ok set → length set.semaphores ≡ count
sized-by true count set is = absurd (cc)
sized-by false count set is =
    let same : set_of (replicate count new_semaphore) ≡ set = cc
    in ap (λ (s : SemaphoreSet). length s.semaphores) (sym same) ∙ length-replicate count new_semaphore

-- a new set has so many semaphores
sized : (count : ℕ) (set : SemaphoreSet) → new_set count ≡ Ok set → length set.semaphores ≡ count
sized count set is = sized-by (is_bad_count count) count set is

-- a set that is made step by step is made as the definition says
pub set-made : (script : Script) (old new : Step) (asked : Asked) (key count number : ℕ) (after made : Node)
    (name : Name) (leader : Leader) → take_number old.node Sem ≡ Some (taken number after)
    → IsNewSet after number count made name
    → leader ≡ record made.leader { set_keys = bind made.leader.set_keys key number count }
    → new ≡ put_in_place script (record old { node = record made { leader = leader } }) asked name number
    → create_sized script old asked key count ≡ Some new
set-made script old new asked key count number after made name leader took is bound done =
    ap (create_set script old asked key) is.is
    ∙ ap (option_map (make_set script old asked key is.set)) took
    ∙ ap Some (rw (done, bound, is.named, is.after, ← sized count is.set is.is) refl)
