-- Each deed is within the limits, as all of them are.
use Rattle.std.proofs.Common.{◌≡◌, ◌&&◌, true, nat_lt, List, [], ◌∷◌, length, IsTrue}
use Rattle.std.specs.List.{AllByRecursion, list_all}
use Rattle.std.proofs.lemmas.Bool.{and_parts}
use Rattle.rpc_frame.specs.declared.deed.PackedDeed.{PackedDeed}
use Rattle.frame_bytes.specs.Frames.{are_processes}
use Rattle.frame_bytes.specs.Limits.{is_deed}
use Rattle.frame_bytes.proofs.writing.put_deeds.Goals as goal

each-within : (deeds : List PackedDeed) → list_all is_deed deeds ≡ true
    → AllByRecursion (λ deed. IsTrue (is_deed deed)) deeds
each-within [] h = tt
each-within (deed ∷ deeds) h =
    let t = and_parts (is_deed deed) (list_all is_deed deeds) h in (t.0, each-within deeds t.1)

pub put_many-requires : goal.put_many-requires
put_many-requires c =
    let deeds = c.args.deeds.now in
    let t = and_parts (nat_lt (length deeds) 256) (list_all is_deed deeds && are_processes deeds) c.requires in
    let all = (and_parts (list_all is_deed deeds) (are_processes deeds) t.1).0 in
    rw c.as_slice.ensures (each-within deeds all)

pub returns-clause-fits : goal.returns-clause-fits
returns-clause-fits c = rw c.as_slice.ensures at c.put_many.ensures.fits
