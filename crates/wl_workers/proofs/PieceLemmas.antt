-- Lemmas on reading one piece of input after another.
use Rattle.std.proofs.Common.{◌≡◌, ℕ, List, [], ◌++◌, true, false, Ok, Err, inl, inr, refl, sym, ap, subst, ◌∙◌, append_assoc, append-nil}
use Rattle.std.specs.List.{flat_map}
use Rattle.std.proofs.lemmas.List.Concat.{flat_map-append}
use Rattle.wl_broker.proofs.SpeechLists.{AllByRecursion-append}
use Rattle.wl_frames.specs.declared.fault.FrameFault.{FrameFault}
use Rattle.wl_frames.specs.declared.fault.FrameFault.TheVariants as fault
use Rattle.wl_grammar.specs.declared.frame.Frame.{Frame}
use Rattle.wl_grammar.specs.Grammar.{IsWellFormed, spelling}
use Rattle.wl_frames.specs.Faults.{of_frame}
use Rattle.wl_frames.specs.Stream.{Stop, Rest, Fault, HasFault, HasFaultNext, Reads, IsPartial, Feeding, Refuses}
use Rattle.wl_workers.specs.declared.desk.DeskFault.{DeskFault}
use Rattle.wl_workers.specs.declared.desk.DeskFault.TheVariants as desk
use Rattle.wl_grammar.specs.Prefixes.{IsPrefixOf}
use Rattle.wl_workers.specs.Desk.{DeskState, desk_after, IsRefused, IsReadPart}
use Rattle.wl_workers.specs.DeskSteps.{due, Deals, EndsBy, Breaks}

-- A reading up to a rest and a reading of that rest with more input join into one reading.
pub Reads-join : (stream piece rest : List ℕ) (fs gs : List Frame) (stop : Stop) → Reads stream fs (Rest rest) → Reads (rest ++ piece) gs stop → Reads (stream ++ piece) (fs ++ gs) stop
Reads-join stream piece rest fs gs stop p q = record {
  after = q.after;
  spelled =
      ap (λ l. l ++ piece) (p.spelled ∙ ap (λ l. flat_map spelling fs ++ l) p.stops.0)
      ∙ append_assoc (flat_map spelling fs) rest piece
      ∙ ap (λ l. flat_map spelling fs ++ l) q.spelled
      ∙ sym (append_assoc (flat_map spelling fs) (flat_map spelling gs) q.after)
      ∙ ap (λ l. l ++ q.after) (sym (flat_map-append spelling fs gs));
  well_formed = AllByRecursion-append IsWellFormed fs gs p.well_formed q.well_formed;
  stops = q.stops;
}

-- An empty piece adds no frame.
pub Reads-none : (rest : List ℕ) → IsPartial rest → Reads (rest ++ []) [] (Rest rest)
Reads-none rest partial = record { after = rest; spelled = append-nil rest; well_formed = tt; stops = (refl, partial) }

-- From a fault in answering to the piece that was read

-- For every fault, a whole piece counts as its own decoded part.
part_whole : (piece : List ℕ) (e : DeskFault) → IsReadPart piece piece (Err e)
part_whole piece (desk.Frame f) = refl
part_whole piece desk.Unexpected = refl
part_whole piece desk.Read = refl
part_whole piece desk.Write = refl
part_whole piece desk.TooManyReads = refl
part_whole piece desk.Memory = ([], sym (append-nil piece))

ends_by_deals : (old new : DeskState) (frames : List Frame) (stop : Stop) (e : DeskFault) (output : List ℕ) → Deals old frames new (Err e) output → EndsBy old frames stop e output
ends_by_deals old new frames stop (desk.Frame f) output h = absurd h
ends_by_deals old new frames stop desk.Unexpected output h = h
ends_by_deals old new frames stop desk.Read output h = h
ends_by_deals old new frames stop desk.Write output h = h.1
ends_by_deals old new frames stop desk.TooManyReads output h = h
ends_by_deals old new frames stop desk.Memory output h = h

pub breaks_by_deals : (old new : DeskState) (rest piece : List ℕ) (frames : List Frame) (stop : Stop) (e : DeskFault) (output : List ℕ) → Reads (rest ++ piece) frames stop
    → Deals old frames new (Err e) output → Breaks old rest piece e output
breaks_by_deals old new rest piece frames stop e output reads h = record {
  part = piece;
  frames = frames;
  stop = stop;
  is_part = part_whole piece e;
  reads = reads;
  ends = ends_by_deals old new frames stop e output h;
}

-- Running out of memory while decoding a piece breaks the run.
breaks_by_memory : (old : DeskState) (rest piece : List ℕ) (output : List ℕ) → IsPartial rest → output ≡ [] → Breaks old rest piece desk.Memory output
breaks_by_memory old rest piece output partial none = record {
  part = [];
  frames = [];
  stop = Rest rest;
  is_part = (piece, refl);
  reads = Reads-none rest partial;
  ends = ([], sym (append-nil output ∙ none));
}

no_deal : (old new : DeskState) (rest piece : List ℕ) (frames : List Frame) (e : DeskFault) (output : List ℕ) → IsPartial rest → (IsRefused old → ⊥) → frames ≡ [] → Deals old frames new (Err e) output
    → Breaks old rest piece e output
no_deal old new rest piece frames (desk.Frame f) output partial is_open none h = absurd h
no_deal old new rest piece frames desk.Unexpected output partial is_open none h = absurd (is_open (subst (λ fs. IsRefused (desk_after old fs)) none h.0))
no_deal old new rest piece frames desk.Read output partial is_open none h = absurd h
no_deal old new rest piece frames desk.Write output partial is_open none h = absurd (h.0 none)
no_deal old new rest piece frames desk.TooManyReads output partial is_open none h = absurd h
no_deal old new rest piece frames desk.Memory output partial is_open none h = record {
  part = [];
  frames = [];
  stop = Rest rest;
  is_part = (piece, refl);
  reads = Reads-none rest partial;
  ends = subst (λ fs. IsPrefixOf output (due old fs)) none h;
}

breaks_by_fault : (old new : DeskState) (rest piece : List ℕ) (frames : List Frame) (fault : FrameFault) (output : List ℕ) → Reads (rest ++ piece) frames (Fault fault) → Deals old frames new (Ok tt) output
    → Breaks old rest piece (desk.Frame fault) output
breaks_by_fault old new rest piece frames fault output reads h = record {
  part = piece;
  frames = frames;
  stop = Fault fault;
  is_part = refl;
  reads = reads;
  ends = (refl, λ refused. h.1 (subst IsRefused (sym h.0) refused), h.2);
}

-- A fault in answering the frames before a decoding fault ends the run.
pub breaks_before : (old new : DeskState) (before after : Feeding) (piece : List ℕ) (frames : List Frame) (fault : FrameFault) (e : DeskFault) (output : List ℕ) → before.has_failed ≡ false
    → IsPartial before.rest → (IsRefused old → ⊥) → Refuses before after piece frames fault → Deals old frames new (Err e) output → Breaks old before.rest piece e output
breaks_before old new before after piece frames fault.BadLength e output sound partial is_open refuses h =
    breaks_by_deals old new before.rest piece frames (Fault fault.BadLength) e output (refuses.stops (λ x. cc) (λ x. cc)).0 h
breaks_before old new before after piece frames fault.BadVersion e output sound partial is_open refuses h =
    breaks_by_deals old new before.rest piece frames (Fault fault.BadVersion) e output (refuses.stops (λ x. cc) (λ x. cc)).0 h
breaks_before old new before after piece frames fault.BadKind e output sound partial is_open refuses h =
    breaks_by_deals old new before.rest piece frames (Fault fault.BadKind) e output (refuses.stops (λ x. cc) (λ x. cc)).0 h
breaks_before old new before after piece frames fault.BadField e output sound partial is_open refuses h =
    breaks_by_deals old new before.rest piece frames (Fault fault.BadField) e output (refuses.stops (λ x. cc) (λ x. cc)).0 h
breaks_before old new before after piece frames fault.LeftOver e output sound partial is_open refuses h =
    breaks_by_deals old new before.rest piece frames (Fault fault.LeftOver) e output (refuses.stops (λ x. cc) (λ x. cc)).0 h
breaks_before old new before after piece frames fault.Truncated e output sound partial is_open refuses h =
    breaks_by_deals old new before.rest piece frames (Fault fault.Truncated) e output (refuses.stops (λ x. cc) (λ x. cc)).0 h
breaks_before old new before after piece frames fault.Memory e output sound partial is_open refuses h = no_deal old new before.rest piece frames e output partial is_open (refuses.memory refl).0 h
breaks_before old new before after piece frames fault.Failed e output sound partial is_open refuses h =
    let failed = refuses.failed_before.0 refl in absurd (let e : true ≡ false = sym failed ∙ sound in cc)

-- After the frames before a decoding fault are answered, that fault ends the run.
pub breaks_after : (old new : DeskState) (before after : Feeding) (piece : List ℕ) (frames : List Frame) (fault : FrameFault) (output : List ℕ) → before.has_failed ≡ false
    → IsPartial before.rest → Refuses before after piece frames fault → Deals old frames new (Ok tt) output → Breaks old before.rest piece (of_frame desk.Memory desk.Frame fault) output
breaks_after old new before after piece frames fault.BadLength output sound partial refuses h =
    breaks_by_fault old new before.rest piece frames fault.BadLength output (refuses.stops (λ x. cc) (λ x. cc)).0 h
breaks_after old new before after piece frames fault.BadVersion output sound partial refuses h =
    breaks_by_fault old new before.rest piece frames fault.BadVersion output (refuses.stops (λ x. cc) (λ x. cc)).0 h
breaks_after old new before after piece frames fault.BadKind output sound partial refuses h =
    breaks_by_fault old new before.rest piece frames fault.BadKind output (refuses.stops (λ x. cc) (λ x. cc)).0 h
breaks_after old new before after piece frames fault.BadField output sound partial refuses h =
    breaks_by_fault old new before.rest piece frames fault.BadField output (refuses.stops (λ x. cc) (λ x. cc)).0 h
breaks_after old new before after piece frames fault.LeftOver output sound partial refuses h =
    breaks_by_fault old new before.rest piece frames fault.LeftOver output (refuses.stops (λ x. cc) (λ x. cc)).0 h
breaks_after old new before after piece frames fault.Truncated output sound partial refuses h =
    breaks_by_fault old new before.rest piece frames fault.Truncated output (refuses.stops (λ x. cc) (λ x. cc)).0 h
breaks_after old new before after piece frames fault.Memory output sound partial refuses h =
    breaks_by_memory old before.rest piece output partial (h.2 ∙ ap (due old) (refuses.memory refl).0)
breaks_after old new before after piece frames fault.Failed output sound partial refuses h =
    let failed = refuses.failed_before.0 refl in absurd (let e : true ≡ false = sym failed ∙ sound in cc)

-- A fault that comes next is not a truncated frame.
pub no_cut : (after : List ℕ) (f : FrameFault) → HasFaultNext after f → f ≡ fault.Truncated → ⊥
no_cut after f (inl h) cut = let e : fault.BadLength ≡ fault.Truncated = sym h.5 ∙ cut in cc
no_cut after f (inr h) cut = subst (λ (g : FrameFault). HasFault h.0 g) cut h.4
