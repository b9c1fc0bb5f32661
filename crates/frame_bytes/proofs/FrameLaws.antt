-- Frames read what they spell.
use Rattle.std.proofs.Common.{◌≡◌, ℕ, ◌<◌, ◌≤◌, true, ◌&&◌, cond, eqb, List, [], ◌∷◌, ◌++◌, length, Some, None, refl, sym, ap, subst, ◌∙◌, append_assoc, arith}
use Rattle.std.specs.Prelude.{nat_lt, nat_le}
use Rattle.std.specs.List.{list_all, AllByRecursion}
use Rattle.std.proofs.lemmas.Bool.{eqb-true, and_parts, and_from}
use Rattle.std.proofs.lemmas.Bool.Decides.{nat_tests}
use Rattle.std.proofs.lemmas.List.{append-nil, nil_from_length}
use Rattle.pico_base.specs.declared.call.Call.{Call}
use Rattle.pico_base.specs.declared.numbers.Kind.{Kind}
use Rattle.pico_base.specs.declared.numbers.Name.{Name}
use Rattle.pico_base.specs.declared.reply.Reply.{Reply}
use Rattle.rpc_frame.specs.declared.asked.Asked.{Asked}
use Rattle.rpc_frame.specs.declared.deed.PackedDeed.{PackedDeed}
use Rattle.rpc_frame.specs.declared.deed.Parcel.{Parcel}
use Rattle.rpc_frame.specs.declared.frame.Frame.{Frame}
use Rattle.rpc_frame.specs.declared.frame.Frame.TheVariants as frames
use Rattle.body_fields.proofs.Fields.{IsBytes, bind_some, guard_ended}
use Rattle.frame_bytes.specs.Readers.{byte_at, counted, four, tabled}
use Rattle.frame_bytes.specs.Fields.{IsWord, IsHalf, name_number, word, half, name_field, word_at, half_at}
use Rattle.frame_bytes.specs.Calls.{call_bytes, asked_call_at, last_call_at, withdrawal_at}
use Rattle.frame_bytes.specs.Replies.{reply_bytes, reply_at}
use Rattle.frame_bytes.specs.Frames.{is_index, have_order, are_processes, deed_field, value_field, vars_field, deeds_field, parcel_field, asked_field, asked_of, frame_body, deed_at, index_at, value_at, vars_at, deeds_at, parcel_at, asked_at, cancelled_at, frame_rows, frame_at, max_frame, whole_at}
use Rattle.frame_bytes.specs.Limits.{is_nonzero, is_half, is_text, is_call, is_last_call, is_withdrawal, is_reply, is_deed, are_deeds, is_parcel, are_vars, has_fields}
use Rattle.frame_bytes.specs.Ranges.{HasDeedRange, HasValueRanges, HasParcelRanges, HasAskingRanges, HasAskedRanges, HasRanges, IsFrame}
use Rattle.frame_bytes.proofs.Inverse.{Inverse, Field, Counted, Passes, Reads, byte-inverse, passing-inverse, counted-inverse, renamed, none-takes, one-takes, two-takes, three-takes, four-takes, tabled-takes, one-again, two-again, three-again, four-again}
use Rattle.frame_bytes.proofs.FieldLaws.{IsPositive, half-inverse, values-count-inverse, word-field, positive-field, node-field, kind-field, text-field, name-field, whole-inverse}
use Rattle.frame_bytes.proofs.CallLaws.{IsAskedCall, IsLastCall, IsWithdrawal, IsAnswer, asked_call-inverse, last_call-inverse, withdrawal-inverse, reply-inverse}

-- ---- deeds

-- a deed that has a spelling
abbrev pub IsDeed : PackedDeed → Type 0
IsDeed deed = HasDeedRange deed × (is_deed deed ≡ true)

abbrev deed-of : Name → List ℕ → PackedDeed
deed-of name body = record { name = name; body = body }

deed-again : (deed : PackedDeed) (rest : List ℕ) → IsDeed deed → deed_at (deed_field deed ++ rest) ≡ Some (deed, rest)
unfolding deed_at
deed-again deed rest h =
    let t = and_parts (is_nonzero (name_number deed.name)) (is_text deed.body) h.1
    in two-again Name (List ℕ) PackedDeed name-field text-field deed-of deed.name deed.body rest (h.0, t.0) t.1

pub deed-inverse : Inverse PackedDeed IsDeed deed_field deed_at
unfolding deed_at
deed-inverse =
    whole-inverse PackedDeed IsDeed deed_field deed_at
    (two-takes PackedDeed IsDeed deed_field Name (List ℕ) name-field text-field deed-of [] (λ a b. refl)
    (λ a b p q. (p.0, and_from (is_nonzero (name_number a)) (is_text b) p.1 q)))
    deed-again

abbrev deed-list : Field PackedDeed
deed-list = record { Fits = IsDeed; spell = deed_field; read = deed_at; inverse = deed-inverse }

-- deeds of which each has a spelling
each-ranges : (deeds : List PackedDeed) → AllByRecursion IsDeed deeds → AllByRecursion HasDeedRange deeds
each-ranges [] h = tt
each-ranges (deed ∷ deeds) h = (h.0.0, each-ranges deeds h.1)

each-within : (deeds : List PackedDeed) → AllByRecursion IsDeed deeds → list_all is_deed deeds ≡ true
each-within [] h = refl
each-within (deed ∷ deeds) h =
    and_from (is_deed deed) (list_all is_deed deeds) h.0.1 (each-within deeds h.1)

each-is : (deeds : List PackedDeed) → AllByRecursion HasDeedRange deeds → list_all is_deed deeds ≡ true
    → AllByRecursion IsDeed deeds
each-is [] h w = tt
each-is (deed ∷ deeds) h w =
    let t = and_parts (is_deed deed) (list_all is_deed deeds) w
    in ((h.0, t.0), each-is deeds h.1 t.1)

-- deeds that have a spelling
abbrev pub AreDeeds : List PackedDeed → Type 0
AreDeeds deeds = AllByRecursion HasDeedRange deeds × (are_deeds deeds ≡ true)

few-passes : (n : ℕ) → nat_lt n 256 ≡ true → n < 256
few-passes n h = grind (arith, nat_tests)

few-is : (n : ℕ) → n < 256 → nat_lt n 256 ≡ true
few-is n h = grind (arith, nat_tests)

pub deeds-inverse : Inverse (List PackedDeed) AreDeeds deeds_field deeds_at
unfolding deeds_at
deeds-inverse =
    renamed (List PackedDeed)
    (Passes (List PackedDeed) (Counted PackedDeed (λ n. n < 256) IsDeed) are_processes) AreDeeds deeds_field
    deeds_at
    (λ xs p. (
      each-ranges xs p.fits.each,
      and_from (nat_lt (length xs) 256) (list_all is_deed xs && are_processes xs) (few-is (length xs) p.fits.count)
          (and_from (list_all is_deed xs) (are_processes xs) (each-within xs p.fits.each) p.passes),
    ))
    (λ xs p.
    let t = and_parts (nat_lt (length xs) 256) (list_all is_deed xs && are_processes xs) p.1
    in let u = and_parts (list_all is_deed xs) (are_processes xs) t.1
    in record {
      fits = record { count = few-passes (length xs) t.0; each = each-is xs p.0 u.0 };
      passes = u.1;
    })
    (passing-inverse (List PackedDeed) (Counted PackedDeed (λ n. n < 256) IsDeed) deeds_field
    (counted byte_at deed_at) are_processes
    (counted-inverse PackedDeed (λ n. n < 256)
    (λ n. n ∷ []) byte_at IsDeed deed_field deed_at byte-inverse deed-inverse))

-- ---- variables

pub index-inverse : Inverse ℕ (Passes ℕ IsHalf is_index) half index_at
unfolding index_at
index-inverse = passing-inverse ℕ IsHalf half half_at is_index half-inverse

abbrev index-field : Field ℕ
index-field = record { Fits = Passes ℕ IsHalf is_index; spell = half; read = index_at; inverse = index-inverse }

abbrev value-of : ℕ → ℕ → ℕ × ℕ
value-of index value = (index, value)

pub value-inverse : Inverse (ℕ × ℕ) HasValueRanges value_field value_at
unfolding value_at
value-inverse =
    whole-inverse (ℕ × ℕ) HasValueRanges value_field value_at
    (two-takes (ℕ × ℕ) HasValueRanges value_field ℕ ℕ index-field word-field value-of [] (λ a b. refl)
    (λ a b p q. record { fits = p.fits; index = p.passes; value = q }))
    (λ v rest p. two-again ℕ ℕ (ℕ × ℕ) index-field word-field value-of v.0 v.1 rest
    (record { fits = p.fits; passes = p.index }) p.value)

-- variables that have a spelling
abbrev pub AreVars : List (ℕ × ℕ) → Type 0
AreVars vars = AllByRecursion HasValueRanges vars × (are_vars vars ≡ true)

pub vars-inverse : Inverse (List (ℕ × ℕ)) AreVars vars_field vars_at
unfolding vars_at
vars-inverse =
    renamed (List (ℕ × ℕ))
    (Passes (List (ℕ × ℕ)) (Counted (ℕ × ℕ) (λ n. is_half n ≡ true) HasValueRanges) have_order) AreVars vars_field
    vars_at
    (λ xs p. (p.fits.each, and_from (is_half (length xs)) (have_order xs) p.fits.count p.passes))
    (λ xs p.
    let t = and_parts (is_half (length xs)) (have_order xs) p.1
    in record { fits = record { count = t.0; each = p.0 }; passes = t.1 })
    (passing-inverse (List (ℕ × ℕ)) (Counted (ℕ × ℕ) (λ n. is_half n ≡ true) HasValueRanges) vars_field
    (counted half_at value_at) have_order
    (counted-inverse (ℕ × ℕ) (λ n. is_half n ≡ true) half half_at HasValueRanges value_field value_at
    values-count-inverse value-inverse))

-- ---- parcels, and calls that were asked for

abbrev deed-field : Field PackedDeed
deed-field = deed-list

abbrev deeds-field : Field (List PackedDeed)
deeds-field = record { Fits = AreDeeds; spell = deeds_field; read = deeds_at; inverse = deeds-inverse }

abbrev vars-field : Field (List (ℕ × ℕ))
vars-field = record { Fits = AreVars; spell = vars_field; read = vars_at; inverse = vars-inverse }

abbrev call-field : Field Call
call-field = record { Fits = IsAskedCall; spell = call_bytes; read = asked_call_at; inverse = asked_call-inverse }

abbrev last-field : Field Call
last-field = record { Fits = IsLastCall; spell = call_bytes; read = last_call_at; inverse = last_call-inverse }

abbrev withdrawal-field : Field Call
withdrawal-field =
    record { Fits = IsWithdrawal; spell = call_bytes; read = withdrawal_at; inverse = withdrawal-inverse }

abbrev reply-field : Field Reply
reply-field = record { Fits = IsAnswer; spell = reply_bytes; read = reply_at; inverse = reply-inverse }

abbrev parcel-of : ℕ → ℕ → Call → List PackedDeed → Parcel
parcel-of pid parent call deeds = record { pid = pid; parent = parent; call = call; deeds = deeds }

-- what stands behind a call goes on behind its bytes
behind-call : (pid parent : ℕ) (call more rest : List ℕ)
    → (word pid ++ (word parent ++ (call ++ more))) ++ rest ≡ word pid ++ (word parent ++ (call ++ (more ++ rest)))
behind-call pid parent call more rest =
    ap (λ (y : List ℕ). word pid ++ (word parent ++ y)) (append_assoc call more rest)

-- a parcel that has a spelling
abbrev pub IsParcel : Parcel → Type 0
IsParcel p = HasParcelRanges p × (is_parcel p ≡ true)

parcel-again : (p : Parcel) (rest : List ℕ) → IsParcel p → parcel_at (parcel_field p ++ rest) ≡ Some (p, rest)
unfolding parcel_at
parcel-again p rest h =
    let t = and_parts (is_last_call p.call) (are_deeds p.deeds) h.1
    in ap (four word_at word_at last_call_at deeds_at parcel-of)
    (behind-call p.pid p.parent (call_bytes p.call) (deeds_field p.deeds) rest)
    ∙ four-again ℕ ℕ Call
    (List PackedDeed) Parcel word-field word-field last-field deeds-field parcel-of p.pid p.parent p.call p.deeds
    rest
    h.0.pid h.0.parent (h.0.call, t.0) (h.0.deeds, t.1)

pub parcel-inverse : Inverse Parcel IsParcel parcel_field parcel_at
unfolding parcel_at
parcel-inverse =
    whole-inverse Parcel IsParcel parcel_field parcel_at
    (four-takes Parcel IsParcel parcel_field ℕ ℕ Call
    (List PackedDeed) word-field word-field last-field deeds-field parcel-of [] (λ a b c d. refl)
    (λ a b c d p q r s. (
      record { pid = p; parent = q; call = r.0; deeds = s.0 },
      and_from (is_last_call c) (are_deeds d) r.1 s.1,
    )))
    parcel-again

-- what Ask and Request say of a call, where it has a spelling
abbrev pub IsAsking : ℕ → ℕ → Call → Type 0
IsAsking ticket pid call = HasAskingRanges ticket pid call × ((is_nonzero ticket && is_call call) ≡ true)

asking-is : (ticket pid : ℕ) (call : Call) → IsPositive ticket → IsWord pid → IsAskedCall call
    → IsAsking ticket pid call
asking-is ticket pid call p q r =
    (record { ticket = p.0; pid = q; call = r.0 }, and_from (is_nonzero ticket) (is_call call) p.1 r.1)

asking-ticket : (ticket pid : ℕ) (call : Call) → IsAsking ticket pid call → IsPositive ticket
asking-ticket ticket pid call h = (h.0.ticket, (and_parts (is_nonzero ticket) (is_call call) h.1).0)

asking-call : (ticket pid : ℕ) (call : Call) → IsAsking ticket pid call → IsAskedCall call
asking-call ticket pid call h = (h.0.call, (and_parts (is_nonzero ticket) (is_call call) h.1).1)

-- a call that was asked for, where it has a spelling
abbrev pub IsAsked : Asked → Type 0
IsAsked asked = HasAskedRanges asked × ((is_nonzero asked.ticket && is_call asked.call) ≡ true)

-- the fields of a call that is asked for are read back, and what is read is such a call
pub asked-inverse : Inverse Asked IsAsked asked_field asked_at
unfolding asked_at
asked-inverse =
    whole-inverse Asked IsAsked asked_field asked_at
    (four-takes Asked IsAsked asked_field ℕ ℕ ℕ Call node-field positive-field word-field call-field asked_of []
    (λ a b c d. refl)
    (λ a b c d p q r s. let t = asking-is b c d q r s in ((p, t.0), t.1)))
    (λ a rest h. four-again ℕ ℕ ℕ Call Asked node-field positive-field word-field call-field asked_of a.caller a.ticket
    a.pid a.call rest h.0.0
    (asking-ticket a.ticket a.pid a.call (h.0.1, h.1)) h.0.1.pid (asking-call a.ticket a.pid a.call (h.0.1, h.1)))

-- the end of a wait that was asked for, where it has a spelling
abbrev pub IsCancelled : Asked → Type 0
IsCancelled asked = HasAskedRanges asked × ((is_nonzero asked.ticket && is_withdrawal asked.call) ≡ true)

pub cancelled-inverse : Inverse Asked IsCancelled asked_field cancelled_at
unfolding cancelled_at
cancelled-inverse =
    whole-inverse Asked IsCancelled asked_field cancelled_at
    (four-takes Asked IsCancelled asked_field ℕ ℕ ℕ Call node-field positive-field word-field withdrawal-field asked_of
    []
    (λ a b c d. refl)
    (λ a b c d p q r s. (
      (p, record { ticket = q.0; pid = r; call = s.0 }),
      and_from (is_nonzero b) (is_withdrawal d) q.1 s.1,
    )))
    (λ a rest h. let t = and_parts (is_nonzero a.ticket) (is_withdrawal a.call) h.1
    in four-again ℕ ℕ ℕ Call Asked node-field positive-field word-field withdrawal-field asked_of a.caller a.ticket
    a.pid a.call rest h.0.0 (h.0.1.ticket, t.0) h.0.1.pid (h.0.1.call, t.1))

abbrev parcel-field : Field Parcel
parcel-field = record { Fits = IsParcel; spell = parcel_field; read = parcel_at; inverse = parcel-inverse }

abbrev asked-field : Field Asked
asked-field = record { Fits = IsAsked; spell = asked_field; read = asked_at; inverse = asked-inverse }

abbrev cancelled-field : Field Asked
cancelled-field = record { Fits = IsCancelled; spell = asked_field; read = cancelled_at; inverse = cancelled-inverse }

-- ---- frames

-- fields that have a spelling
abbrev pub HasFields : Frame → Type 0
HasFields f = HasRanges f × (has_fields f ≡ true)

frame-takes : Reads Frame HasFields frame_body frame_at []
unfolding frame_at
frame-takes =
    tabled-takes Frame HasFields frame_body frame_rows (
      three-takes Frame HasFields frame_body ℕ ℕ Call positive-field word-field call-field frames.Ask (1 ∷ [])
          (λ a b c. refl)
          (λ a b c p q r. asking-is a b c p q r),
      (
        three-takes Frame HasFields frame_body ℕ ℕ Call positive-field word-field call-field frames.Request (2 ∷ [])
            (λ a b c. refl)
            (λ a b c p q r. asking-is a b c p q r),
        (
          one-takes Frame HasFields frame_body Asked asked-field frames.Forward (3 ∷ []) (λ a. refl) (λ a p. p),
          (
            one-takes Frame HasFields frame_body Asked asked-field frames.Bounce (4 ∷ []) (λ a. refl) (λ a p. p),
            (
              two-takes Frame HasFields frame_body ℕ Reply positive-field reply-field frames.Answer (5 ∷ [])
                  (λ a b. refl)
                  (λ a b p q. ((p.0, q.0), and_from (is_nonzero a) (is_reply b) p.1 q.1)),
              (
                one-takes Frame HasFields frame_body ℕ positive-field frames.NotOwner (6 ∷ []) (λ a. refl) (λ a p. p),
                (
                  one-takes Frame HasFields frame_body Kind kind-field frames.LeaseAsk (7 ∷ []) (λ a. refl)
                      (λ a p. (p, refl)),
                  (
                    two-takes Frame HasFields frame_body Kind ℕ kind-field word-field frames.Lease (8 ∷ [])
                        (λ a b. refl) (λ a b p q. (q, refl)),
                    (
                      two-takes Frame HasFields frame_body Name ℕ name-field node-field frames.Placed (9 ∷ [])
                          (λ a b. refl) (λ a b p q. ((p.0, q), p.1)),
                      (
                        four-takes Frame HasFields frame_body ℕ ℕ PackedDeed
                            (List (ℕ × ℕ)) word-field word-field deed-field vars-field frames.Checkpoint (10 ∷ [])
                            (λ a b c d. refl)
                            (λ a b c d p q r s. (
                              record { pid = p; parent = q; deed = r.0; vars = s.0 },
                              and_from (is_deed c) (are_vars d) r.1 s.1,
                            )),
                        (
                          two-takes Frame HasFields frame_body Name ℕ name-field node-field frames.Suggest (11 ∷ [])
                              (λ a b. refl) (λ a b p q. ((p.0, q), p.1)),
                          (
                            one-takes Frame HasFields frame_body Name name-field frames.Recall (12 ∷ []) (λ a. refl)
                                (λ a p. p),
                            (
                              one-takes Frame HasFields frame_body PackedDeed deed-field frames.GiveBack (13 ∷ [])
                                  (λ a. refl) (λ a p. p),
                              (
                                one-takes Frame HasFields frame_body PackedDeed deed-field frames.Grant (14 ∷ [])
                                    (λ a. refl) (λ a p. p),
                                (
                                  three-takes Frame HasFields frame_body ℕ ℕ ℕ word-field word-field node-field
                                      frames.Leaving (15 ∷ []) (λ a b c. refl)
                                      (λ a b c p q r. ((p, q, r), refl)),
                                  (
                                    none-takes Frame HasFields frame_body (16 ∷ []) frames.RecallAll refl (tt, refl),
                                    (
                                      one-takes Frame HasFields frame_body Parcel parcel-field frames.Left (17 ∷ [])
                                          (λ a. refl) (λ a p. p),
                                      (
                                        one-takes Frame HasFields frame_body Parcel parcel-field frames.ExitTo (18 ∷ [])
                                            (λ a. refl) (λ a p. p),
                                        (
                                          one-takes Frame HasFields frame_body Asked cancelled-field frames.Cancel
                                              (19 ∷ []) (λ a. refl) (λ a p. p),
                                          tt,
                                        ),
                                      ),
                                    ),
                                  ),
                                ),
                              ),
                            ),
                          ),
                        ),
                      ),
                    ),
                  ),
                ),
              ),
            ),
          ),
        ),
      ),
    )

-- what stands behind a deed goes on behind its body
behind-deed : (pid parent : ℕ) (deed : PackedDeed) (more rest : List ℕ)
    → (10 ∷ (word pid ++ (word parent ++ (deed_field deed ++ more)))) ++ rest ≡ 10
    ∷ (word pid ++ (word parent ++ (deed_field deed ++ (more ++ rest))))
behind-deed pid parent deed more rest =
    ap (λ (y : List ℕ). 10 ∷ (word pid ++ (word parent ++ (name_field deed.name ++ (word (length deed.body) ++ y)))))
    (append_assoc deed.body more rest)

pub frame-again : (f : Frame) (rest : List ℕ) → HasFields f → frame_at (frame_body f ++ rest) ≡ Some (f, rest)
unfolding frame_at
frame-again (frames.Ask ticket pid call) rest h =
    three-again ℕ ℕ Call Frame positive-field word-field call-field frames.Ask ticket pid call rest
    (asking-ticket ticket pid call h) h.0.pid (asking-call ticket pid call h)
frame-again (frames.Request ticket pid call) rest h =
    three-again ℕ ℕ Call Frame positive-field word-field call-field frames.Request ticket pid call rest
    (asking-ticket ticket pid call h) h.0.pid (asking-call ticket pid call h)
frame-again (frames.Forward asked) rest h = one-again Asked Frame asked-field frames.Forward asked rest h
frame-again (frames.Bounce asked) rest h = one-again Asked Frame asked-field frames.Bounce asked rest h
frame-again (frames.Answer ticket reply) rest h =
    let t = and_parts (is_nonzero ticket) (is_reply reply) h.1
    in two-again ℕ Reply Frame positive-field reply-field frames.Answer ticket reply rest (h.0.0, t.0) (h.0.1, t.1)
frame-again (frames.NotOwner ticket) rest h = one-again ℕ Frame positive-field frames.NotOwner ticket rest h
frame-again (frames.LeaseAsk kind) rest h = one-again Kind Frame kind-field frames.LeaseAsk kind rest tt
frame-again (frames.Lease kind first) rest h =
    two-again Kind ℕ Frame kind-field word-field frames.Lease kind first rest tt h.0
frame-again (frames.Placed name node) rest h =
    two-again Name ℕ Frame name-field node-field frames.Placed name node rest (h.0.0, h.1) h.0.1
frame-again (frames.Checkpoint pid parent deed vars) rest h =
    let t = and_parts (is_deed deed) (are_vars vars) h.1
    in ap (tabled frame_rows) (behind-deed pid parent deed (vars_field vars) rest)
    ∙ four-again ℕ ℕ PackedDeed
    (List (ℕ × ℕ)) Frame word-field word-field deed-field vars-field frames.Checkpoint pid parent deed vars rest
    h.0.pid h.0.parent (h.0.deed, t.0) (h.0.vars, t.1)
frame-again (frames.Suggest name node) rest h =
    two-again Name ℕ Frame name-field node-field frames.Suggest name node rest (h.0.0, h.1) h.0.1
frame-again (frames.Recall name) rest h = one-again Name Frame name-field frames.Recall name rest h
frame-again (frames.GiveBack deed) rest h = one-again PackedDeed Frame deed-field frames.GiveBack deed rest h
frame-again (frames.Grant deed) rest h = one-again PackedDeed Frame deed-field frames.Grant deed rest h
frame-again (frames.Leaving pid parent parent_node) rest h =
    three-again ℕ ℕ ℕ Frame word-field word-field node-field frames.Leaving pid parent parent_node rest h.0.0 h.0.1
    h.0.2
frame-again frames.RecallAll rest h = refl
frame-again (frames.Left parcel) rest h = one-again Parcel Frame parcel-field frames.Left parcel rest h
frame-again (frames.ExitTo parcel) rest h = one-again Parcel Frame parcel-field frames.ExitTo parcel rest h
frame-again (frames.Cancel asked) rest h = one-again Asked Frame cancelled-field frames.Cancel asked rest h

pub frame-inverse : Inverse Frame HasFields frame_body frame_at
frame-inverse = whole-inverse Frame HasFields frame_body frame_at frame-takes frame-again

-- ---- all of the bytes

-- bytes that are read as a frame and nothing else are its spelling
pub whole-takes : (bytes : List ℕ) (f : Frame) → IsBytes bytes → whole_at bytes ≡ Some f → (bytes ≡ frame_body f)
    × HasFields f
unfolding whole_at
whole-takes bytes f fits e =
    let a = bind_some (frame_at bytes) (λ x. cond (eqb (length x.1) 0) (Some x.0) None) f e
    in let g = guard_ended (eqb (length a.0.1) 0) a.0.0 f a.2
    in let t = frame-inverse.takes bytes a.0 fits a.1
    in let nothing : a.0.1 ≡ [] = nil_from_length a.0.1 (eqb-true _ _ g.0)
    in let spelled : bytes ≡ frame_body a.0.0 =
    t.0.parts ∙ ap (λ (r : List ℕ). frame_body a.0.0 ++ r) nothing ∙ append-nil (frame_body a.0.0)
    in subst (λ (x : Frame). (bytes ≡ frame_body x) × HasFields x) g.1 (spelled, t.1)

short-passes : (n : ℕ) → nat_le n max_frame ≡ true → n ≤ max_frame
short-passes n h = grind (arith, nat_tests)

short-is : (n : ℕ) → n ≤ max_frame → nat_le n max_frame ≡ true
short-is n h = grind (arith, nat_tests)

-- the body of a frame that has a spelling is short
pub frame-short : (f : Frame) → IsFrame f → length (frame_body f) ≤ max_frame
frame-short f h =
    let t = and_parts (has_fields f) (nat_le (length (frame_body f)) max_frame) h.within
    in short-passes (length (frame_body f)) t.1

-- a frame has a spelling where its fields do, and its body is short
pub frame-is : (f : Frame) → HasFields f → length (frame_body f) ≤ max_frame → IsFrame f
frame-is f h short =
    record {
      ranges = h.0;
      within =
          and_from (has_fields f) (nat_le (length (frame_body f)) max_frame) h.1
          (short-is (length (frame_body f)) short);
    }

-- a frame's spelling is read as the frame
pub whole-again : (f : Frame) → IsFrame f → whole_at (frame_body f) ≡ Some f
unfolding whole_at
whole-again f h =
    let t = and_parts (has_fields f) (nat_le (length (frame_body f)) max_frame) h.within
    in let read : frame_at (frame_body f) ≡ Some (f, []) =
    ap frame_at (sym (append-nil (frame_body f))) ∙ frame-again f [] (h.ranges, t.0)
    in rw read refl
