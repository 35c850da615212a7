-- Lemmas on forwarding frames, and on how reading a tab's link goes on and ends.
use Rattle.std.proofs.Common.{◌≡◌, ◌≢◌, ◌↔◌, ◌⊎◌, ◌≤◌, ℕ, List, [], ◌∷◌, ◌++◌, Bool, true, false, length, map, Option, Result, Ok, Err, inl, inr, refl, sym, ap, subst, ◌∙◌, ⊎_elim, append_assoc, append-nil, length-append, arith, lit<}
use Rattle.std.specs.Io.KnownBytes.{Consumes, IsAtEnd}
use Rattle.std.proofs.KnownBytes.{Consumes-nil, Consumes-trans}
use Rattle.std.proofs.lemmas.List.{map-append}
use Rattle.wl_broker.proofs.SpeechLists.{AllByRecursion-append}
use Rattle.wl_board.specs.declared.tab.Life.{Life}
use Rattle.wl_board.specs.declared.tab.Life.TheVariants as life
use Rattle.wl_grammar.specs.declared.frame.Frame.{Frame}
use Rattle.wl_frames.specs.declared.fault.FrameFault.{FrameFault}
use Rattle.wl_frames.specs.declared.fault.FrameFault.TheVariants as fault
use Rattle.wl_frames.specs.Stream.{Rest, Fault, Reads, IsPartial, Feeding, Refuses, at_start}
use Rattle.wl_workers.specs.declared.tab_reader.ReadEnd.{ReadEnd}
use Rattle.wl_workers.specs.declared.tab_reader.ReadEnd.TheVariants as end
use Rattle.wl_workers.specs.CallRecords.{RecordGrows}
use Rattle.wl_workers.specs.Looks.{IsNotDead, at_tab, FindsDead}
use Rattle.wl_workers.specs.TabReader.{ended, dead_look, HandsUp, IsButLastPiece, EndsAfter, NeedsEnd, ReadsTab, Passes, IsPieceEnd}
use Rattle.wl_workers.proofs.ToldLemmas.{Grows-nil, Grows-trans}
use Rattle.wl_workers.proofs.PieceLemmas.{Reads-join, Reads-none, no_cut}

-- Forwarding

pub HandsUp-none : (tab : ℕ) (a : Option (List (ℕ × Life))) (x : Option (List (ℕ × Frame))) → HandsUp tab a a x x [] []
HandsUp-none tab a x = record { looks = []; not_dead = tt; one_each = refl; looked = Grows-nil a; handed = Grows-nil x }

pub HandsUp-more : (tab : ℕ) (a b c : Option (List (ℕ × Life))) (x y z : Option (List (ℕ × Frame))) (fs gs : List Frame) (last : List Life) → HandsUp tab a b x y fs [] → HandsUp tab b c y z gs last
    → HandsUp tab a c x z (fs ++ gs) last
HandsUp-more tab a b c x y z fs gs last h k = record {
  looks = h.looks ++ k.looks;
  not_dead = AllByRecursion-append IsNotDead h.looks k.looks h.not_dead k.not_dead;
  one_each = let l = length-append h.looks k.looks in let f = length-append fs gs in let p = h.one_each in let q = k.one_each in omega arith;
  looked = subst (RecordGrows a c)
      (sym (map-append (λ (l : Life). (tab, l)) (h.looks ++ []) (k.looks ++ last)) ∙ ap (at_tab tab) (ap (λ l. l ++ (k.looks ++ last)) (append-nil h.looks) ∙ sym (append_assoc h.looks k.looks last)))
      (Grows-trans a b c (at_tab tab (h.looks ++ [])) (at_tab tab (k.looks ++ last)) h.looked k.looked);
  handed = subst (RecordGrows x z) (sym (map-append (λ (f : Frame). (tab, f)) fs gs)) (Grows-trans x y z (map (λ (f : Frame). (tab, f)) fs) (map (λ (f : Frame). (tab, f)) gs) h.handed k.handed);
}

-- One more frame is forwarded after a look that did not find the tab dead.
pub HandsUp-one : (tab : ℕ) (a b c : Option (List (ℕ × Life))) (x y z : Option (List (ℕ × Frame))) (fs : List Frame) (found : Bool) (f : Frame) → HandsUp tab a b x y fs [] → found ≡ false → FindsDead tab found b c
    → RecordGrows y z ((tab, f) ∷ []) → HandsUp tab a c x z (fs ++ f ∷ []) []
HandsUp-one tab a b c x y z fs true f h is found handed = absurd cc
HandsUp-one tab a b c x y z fs false f h is found handed =
    HandsUp-more tab a b c x y z fs (f ∷ []) [] h record { looks = found.0 ∷ []; not_dead = (found.1, tt); one_each = refl; looked = found.2; handed = handed }

-- Forwarding ends when a look finds the tab dead.
pub HandsUp-dead : (tab : ℕ) (a b c : Option (List (ℕ × Life))) (x y : Option (List (ℕ × Frame))) (fs : List Frame) (found : Bool) → HandsUp tab a b x y fs [] → found ≡ true → FindsDead tab found b c
    → HandsUp tab a c x y fs (life.Dead ∷ [])
HandsUp-dead tab a b c x y fs false h is found = absurd cc
HandsUp-dead tab a b c x y fs true h is found =
    subst (λ gs. HandsUp tab a c x y gs (life.Dead ∷ [])) (append-nil fs)
    (HandsUp-more tab a b c x y y fs [] (life.Dead ∷ []) h record { looks = []; not_dead = tt; one_each = refl; looked = found; handed = Grows-nil y })

-- All frames are forwarded.
pub handed_all : (tab : ℕ) (a b : Option (List (ℕ × Life))) (x y : Option (List (ℕ × Frame))) (frames done rest : List Frame) → frames ≡ done ++ rest → rest ≡ [] → HandsUp tab a b x y done [] → HandsUp tab a b x y frames []
handed_all tab a b x y frames done rest split none h = subst (λ fs. HandsUp tab a b x y fs []) (sym (split ∙ ap (λ l. done ++ l) none ∙ append-nil done)) h

-- Pieces

-- Decoding a piece fails for lack of memory, without any frame, or for the fault that comes next.
refused_by : (old new : Feeding) (piece : List ℕ) (before : List Frame) (f : FrameFault) → old.has_failed ≡ false → Refuses old new piece before f
    → ((f ≡ fault.Memory) × (before ≡ [])) ⊎ Reads (old.rest ++ piece) before (Fault f)
refused_by old new piece before fault.BadLength sound h = inr (h.stops (λ x. cc) (λ x. cc)).0
refused_by old new piece before fault.BadVersion sound h = inr (h.stops (λ x. cc) (λ x. cc)).0
refused_by old new piece before fault.BadKind sound h = inr (h.stops (λ x. cc) (λ x. cc)).0
refused_by old new piece before fault.BadField sound h = inr (h.stops (λ x. cc) (λ x. cc)).0
refused_by old new piece before fault.LeftOver sound h = inr (h.stops (λ x. cc) (λ x. cc)).0
refused_by old new piece before fault.Truncated sound h = inr (h.stops (λ x. cc) (λ x. cc)).0
refused_by old new piece before fault.Memory sound h = inl (refl, (h.memory refl).0)
refused_by old new piece before fault.Failed sound h = let failed = h.failed_before.0 refl in absurd (let e : true ≡ false = sym failed ∙ sound in cc)

-- A reading ends with a fault after all frames before the fault are forwarded.
pub fault_after : (old new : Feeding) (piece : List ℕ) (before : List Frame) (f : FrameFault) → old.has_failed ≡ false → IsPartial old.rest → length piece ≤ 4096 → Refuses old new piece before f
    → EndsAfter old.rest piece before (end.Frame f)
fault_after old new piece before f sound partial short h = ⊎_elim
    (λ (m : (f ≡ fault.Memory) × (before ≡ [])). inl (m.0, ([], old.rest, (piece, refl, short), subst (λ fs. Reads (old.rest ++ []) fs (Rest old.rest)) (sym m.1) (Reads-none old.rest partial))))
    (λ (r : Reads (old.rest ++ piece) before (Fault f)). inr (inl r))
    (refused_by old new piece before f sound h)

-- A fault within a piece is not a truncated frame.
pub fault_is_whole : (old new : Feeding) (piece : List ℕ) (before : List Frame) (f : FrameFault) → old.has_failed ≡ false → Refuses old new piece before f → f ≢ fault.Truncated
fault_is_whole old new piece before f sound h cut = ⊎_elim
    (λ (m : (f ≡ fault.Memory) × (before ≡ [])). absurd (let e : fault.Memory ≡ fault.Truncated = sym m.0 ∙ cut in cc))
    (λ (r : Reads (old.rest ++ piece) before (Fault f)). no_cut r.after f r.stops cut)
    (refused_by old new piece before f sound h)

-- Whole readings

-- The end of a reading carries over when earlier input is put before it.
ends_join : (before piece rest : List ℕ) (fs gs : List Frame) (e : ReadEnd) → Reads before fs (Rest rest) → EndsAfter rest piece gs e → EndsAfter [] (before ++ piece) (fs ++ gs) e
ends_join before piece rest fs gs end.End p h = Reads-join before piece rest fs gs (Rest []) p h
ends_join before piece rest fs gs (end.Frame f) p h = ⊎_elim
    (λ (m : (f ≡ fault.Memory) × ((part unread : List ℕ) × IsButLastPiece part piece × Reads (rest ++ part) gs (Rest unread))).
    let k = m.1 in inl (m.0, (before ++ k.0, k.1, (k.2.0, ap (λ l. before ++ l) k.2.1 ∙ sym (append_assoc before k.0 k.2.0), k.2.2), Reads-join before k.0 rest fs gs (Rest k.1) p k.3)))
    (⊎_elim
    (λ (r : Reads (rest ++ piece) gs (Fault f)). inr (inl (Reads-join before piece rest fs gs (Fault f) p r)))
    (λ (t : (f ≡ fault.Truncated) × ((unread : List ℕ) × (unread ≢ []) × Reads (rest ++ piece) gs (Rest unread))).
    let k = t.1 in inr (inr (t.0, (k.0, k.1, Reads-join before piece rest fs gs (Rest k.0) p k.2)))))
    h
ends_join before piece rest fs gs end.Read p h = (h.0, Reads-join before piece rest fs gs (Rest h.0) p h.1)
ends_join before piece rest fs gs end.TooManyReads p h = (h.0, Reads-join before piece rest fs gs (Rest h.0) p h.1)
ends_join before piece rest fs gs end.Dead p h =
    (fs ++ h.0, h.1, Reads-join before piece rest fs h.0 h.1 p h.2, (h.3.0, h.3.1, ap (λ l. fs ++ l) h.3.2 ∙ sym (append_assoc fs gs (h.3.0 ∷ h.3.1))))

-- Helper: all frames read so far are forwarded, up to a rest that is no whole frame.
pub record Handing (tab : ℕ) (reader_before reader_now : Option (List ℕ)) (lives_before lives_now : Option (List (ℕ × Life))) (handed_before handed_now : Option (List (ℕ × Frame))) (rest : List ℕ) : Type 0 where
  pub input : List ℕ
  pub frames : List Frame
  pub consumed : Consumes reader_before reader_now input
  pub reads : Reads input frames (Rest rest)
  pub hands : HandsUp tab lives_before lives_now handed_before handed_now frames []

pub Handing-start : (tab : ℕ) (r : Option (List ℕ)) (a : Option (List (ℕ × Life))) (x : Option (List (ℕ × Frame))) (feed : Feeding) → feed ≡ at_start → Handing tab r r a a x x feed.rest
Handing-start tab r a x feed e = subst (λ (f : Feeding). Handing tab r r a a x x f.rest) (sym e) record {
  input = [];
  frames = [];
  consumed = Consumes-nil r;
  reads = record { after = []; spelled = refl; well_formed = tt; stops = (refl, inl (lit< tt)) };
  hands = HandsUp-none tab a x;
}

pub Handing-more : (tab : ℕ) (r s t : Option (List ℕ)) (a b c : Option (List (ℕ × Life))) (x y z : Option (List (ℕ × Frame))) (rest piece : List ℕ) (feed : Feeding) → Handing tab r s a b x y rest → Consumes s t piece
    → Passes tab b c y z rest piece feed → Handing tab r t a c x z feed.rest
Handing-more tab r s t a b c x y z rest piece feed h consumed p = record {
  input = h.input ++ piece;
  frames = h.frames ++ p.frames;
  consumed = Consumes-trans r s t h.input piece h.consumed consumed;
  reads = Reads-join h.input piece rest h.frames p.frames (Rest feed.rest) h.reads p.reads;
  hands = HandsUp-more tab a b c x y z h.frames p.frames [] h.hands p.hands;
}

-- A piece ends the reading.
pub ends_in_piece : (tab : ℕ) (r s t : Option (List ℕ)) (a b c : Option (List (ℕ × Life))) (x y z : Option (List (ℕ × Frame))) (rest piece : List ℕ) (more : List Frame) (e : ReadEnd) → Handing tab r s a b x y rest
    → Consumes s t piece → EndsAfter rest piece more e → HandsUp tab b c y z more (dead_look e) → ReadsTab tab r t a c x z e
ends_in_piece tab r s t a b c x y z rest piece more e h consumed ends hands = record {
  input = h.input ++ piece;
  frames = h.frames ++ more;
  consumed = Consumes-trans r s t h.input piece h.consumed consumed;
  ends = ends_join h.input piece rest h.frames more e h.reads ends;
  hands = HandsUp-more tab a b c x y z h.frames more (dead_look e) h.hands hands;
}

-- Ends that a piece causes

abbrev refused : ReadEnd → Result (Unit {0}) ReadEnd
refused e = Err e

pub not_plain : (e : ReadEnd) → IsPieceEnd e → refused e ≢ Err end.End
not_plain end.End h = absurd h
not_plain (end.Frame f) h = λ x. cc
not_plain end.Read h = absurd h
not_plain end.TooManyReads h = absurd h
not_plain end.Dead h = λ x. cc

no_read : (e : ReadEnd) → IsPieceEnd e → refused e ≢ Err end.Read
no_read end.End h = absurd h
no_read (end.Frame f) h = λ x. cc
no_read end.Read h = absurd h
no_read end.TooManyReads h = absurd h
no_read end.Dead h = λ x. cc

pub no_failure : (e : ReadEnd) (failed : Bool) → IsPieceEnd e → failed ≡ false → (refused e ≡ Err end.Read) ↔ (failed ≡ true)
no_failure e failed h sound = ((λ is. absurd (no_read e h is)), (λ is. absurd (let k : true ≡ false = sym is ∙ sound in cc)))

pub no_limit : (e : ReadEnd) (n : ℕ) → IsPieceEnd e → refused e ≡ Err end.TooManyReads → n ≡ 1000000
no_limit end.End n h is = absurd h
no_limit (end.Frame f) n h is = cc
no_limit end.Read n h is = absurd h
no_limit end.TooManyReads n h is = absurd h
no_limit end.Dead n h is = cc

-- Ends because the input ended

pub piece_needs_no_end : (e : ReadEnd) (reader : Option (List ℕ)) → IsPieceEnd e → NeedsEnd e reader
piece_needs_no_end end.End reader h = absurd h
piece_needs_no_end (end.Frame f) reader h = λ cut. absurd (h cut)
piece_needs_no_end end.Read reader h = tt
piece_needs_no_end end.TooManyReads reader h = tt
piece_needs_no_end end.Dead reader h = tt

pub closes_at_end : (e : Result (Unit {0}) ReadEnd) (reader : Option (List ℕ)) → IsAtEnd reader → NeedsEnd (ended e) reader
closes_at_end (Ok done) reader at_end = at_end
closes_at_end (Err end.End) reader at_end = at_end
closes_at_end (Err (end.Frame f)) reader at_end = λ cut. at_end
closes_at_end (Err end.Read) reader at_end = tt
closes_at_end (Err end.TooManyReads) reader at_end = tt
closes_at_end (Err end.Dead) reader at_end = tt
