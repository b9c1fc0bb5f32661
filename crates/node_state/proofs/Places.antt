-- A name that is at a node is at another one at once.
use Rattle.std.proofs.Common.{◌≡◌, [], ℕ, Option, Some, IsTrue, ap}
use Rattle.pico_base.specs.declared.numbers.Name.{Name}
use Rattle.pico_base.specs.declared.numbers.Name.TheVariants.{Proc, Msg, Sem}
use Rattle.number_maps.proofs.LookUps.{get-put-same}
use Rattle.number_maps.proofs.Changes.{put-put}
use Rattle.node_model.specs.Kinds.{Named, get_named, put_named}
use Rattle.node_model.specs.Directory.{Directory, Coming, arrive, is_coming, is_coming_to, recall}

put-twice : {V : Type 0} (m : Named V) (name : Name) (u v : V)
    → put_named (put_named m name u) name v ≡ put_named m name v
put-twice m (Proc pid) u v = ap (λ x. record m { processes = x }) (put-put m.processes pid u v)
put-twice m (Msg id) u v = ap (λ x. record m { queues = x }) (put-put m.queues id u v)
put-twice m (Sem id) u v = ap (λ x. record m { sets = x }) (put-put m.sets id u v)

get-put : {V : Type 0} (m : Named V) (name : Name) (v : V) → get_named (put_named m name v) name ≡ Some v
get-put m (Proc pid) v = get-put-same m.processes pid v
get-put m (Msg id) v = get-put-same m.queues id v
get-put m (Sem id) v = get-put-same m.sets id v

-- a name that is asked back is on its way
pub recalled-comes : (d : Directory) (name : Name) (to : Option ℕ) → IsTrue (is_coming (recall d name to) name)
recalled-comes d name to = ap is_coming_to (get-put d.places name (Coming to []))

-- and it arrives as if it hadn't been asked back
pub recalled-arrives : (d : Directory) (name : Name) (to : Option ℕ) (node : ℕ)
    → arrive (recall d name to) name node ≡ arrive d name node
recalled-arrives d name to node = ap (λ x. record d { places = x }) (put-twice d.places name _ _)
