-- Lemmas on whole runs: the input and output so far, and how a run ends.
use Rattle.std.proofs.Common.{◌≡◌, ◌↔◌, ℕ, List, [], ◌++◌, Bool, true, false, Option, Result, Ok, Err, refl, sym, ap, subst, ◌∙◌, append-nil, inl, inr, lit<}
use Rattle.std.specs.Io.KnownBytes.{Consumes, Appends, Keeps, IsAtEnd}
use Rattle.std.proofs.KnownBytes.{Consumes-nil, Appends-nil, Consumes-trans, Appends-trans, Consumes-kept}
use Rattle.wl_grammar.specs.declared.frame.Frame.{Frame}
use Rattle.wl_frames.specs.Stream.{Stop, Rest, StopsAt, Reads, IsPartial, Feeding, at_start}
use Rattle.wl_workers.specs.declared.desk.DeskFault.{DeskFault}
use Rattle.wl_workers.specs.declared.desk.DeskFault.TheVariants as desk
use Rattle.wl_frames.specs.declared.device.ReadFault.{ReadFault}
use Rattle.wl_frames.specs.declared.device.ReadFault.TheVariants as read
use Rattle.wl_frames.specs.Faults.{of_read}
use Rattle.wl_grammar.specs.Prefixes.{IsPrefixOf}
use Rattle.wl_workers.specs.Desk.{DeskState, Opening, desk_after, written, IsServing, IsRefused, IsReadPart, Answered, NeedsEnd, Runs}
use Rattle.wl_workers.specs.DeskSteps.{due, EndsBy, Passes, Breaks, Closes}
use Rattle.wl_grammar.proofs.Prefixes.{append-IsPrefixOf}
use Rattle.wl_workers.proofs.DeskLemmas.{desk_after-append, due-append, frames_before_opening, IsWriteFault}
use Rattle.wl_workers.proofs.PieceLemmas.{Reads-join, no_cut}

-- Helper: all frames read so far are answered, up to a rest that is no whole frame.
pub record Serves (reader_before reader_now writer_before writer_now : Option (List ℕ)) (rest : List ℕ) (d : DeskState) : Type 0 where
  pub input : List ℕ
  pub output : List ℕ
  pub frames : List Frame
  pub consumed : Consumes reader_before reader_now input
  pub appended : Appends writer_before writer_now output
  pub reads : Reads input frames (Rest rest)
  pub desk_is : d ≡ desk_after Opening frames
  pub is_open : IsRefused d → ⊥
  pub output_is : output ≡ written frames

pub Serves-start : (reader writer : Option (List ℕ)) → Serves reader reader writer writer [] Opening
Serves-start reader writer = record {
  input = [];
  output = [];
  frames = [];
  consumed = Consumes-nil reader;
  appended = Appends-nil writer;
  reads = record { after = []; spelled = refl; well_formed = tt; stops = (refl, inl (lit< tt)) };
  desk_is = refl;
  is_open = λ h. h;
  output_is = refl;
}

-- The undecoded rest is no whole frame.
pub Serves-partial : (a b c d : Option (List ℕ)) (rest : List ℕ) (state : DeskState) → Serves a b c d rest state → IsPartial rest
Serves-partial a b c d rest state h = h.reads.stops.1

-- The full output for some frames followed by the output for later frames is the output for all.
written-append : (frames more : List Frame) (state : DeskState) (output piece : List ℕ) → state ≡ desk_after Opening frames → output ≡ written frames → output ++ due state more ≡ written (frames ++ more)
written-append frames more state output piece at is =
    ap (λ l. l ++ due state more) is ∙ ap (λ s. written frames ++ due s more) at ∙ sym (due-append Opening frames more)

after-append : (frames more : List Frame) (state : DeskState) → state ≡ desk_after Opening frames → desk_after state more ≡ desk_after Opening (frames ++ more)
after-append frames more state at = ap (λ s. desk_after s more) at ∙ sym (desk_after-append Opening frames more)

pub Serves-more : (a b b' c d d' : Option (List ℕ)) (rest piece output : List ℕ) (old new : DeskState) (feed : Feeding) → Serves a b c d rest old → Consumes b b' piece → Appends d d' output
    → Passes old new rest piece feed output → Serves a b' c d' feed.rest new
Serves-more a b b' c d d' rest piece output old new feed h consumed appended p = record {
  input = h.input ++ piece;
  output = h.output ++ output;
  frames = h.frames ++ p.frames;
  consumed = Consumes-trans a b b' h.input piece h.consumed consumed;
  appended = Appends-trans c d d' h.output output h.appended appended;
  reads = Reads-join h.input piece rest h.frames p.frames (Rest feed.rest) h.reads p.reads;
  desk_is = p.desk_is ∙ after-append h.frames p.frames old h.desk_is;
  is_open = p.is_open;
  output_is = ap (λ l. h.output ++ l) p.output_is ∙ written-append h.frames p.frames old h.output output h.desk_is h.output_is;
}

-- How a run ends

part_after : (before part piece : List ℕ) (e : DeskFault) → IsReadPart part piece (Err e) → IsReadPart (before ++ part) (before ++ piece) (Err e)
part_after before part piece (desk.Frame f) h = ap (λ l. before ++ l) h
part_after before part piece desk.Unexpected h = ap (λ l. before ++ l) h
part_after before part piece desk.Read h = ap (λ l. before ++ l) h
part_after before part piece desk.Write h = ap (λ l. before ++ l) h
part_after before part piece desk.TooManyReads h = ap (λ l. before ++ l) h
part_after before part piece desk.Memory h = append-IsPrefixOf before part piece h

-- A prefix of the output for later frames, after the full earlier output, is a prefix of the whole.
front_after : (frames more : List Frame) (state : DeskState) (output piece : List ℕ) → state ≡ desk_after Opening frames → output ≡ written frames → IsPrefixOf piece (due state more)
    → IsPrefixOf (output ++ piece) (written (frames ++ more))
front_after frames more state output piece at is h =
    subst (IsPrefixOf (output ++ piece)) (written-append frames more state output piece at is) (append-IsPrefixOf output piece (due state more) h)

answered_after : (frames more : List Frame) (state : DeskState) (stop : Stop) (e : DeskFault) (output piece : List ℕ) → state ≡ desk_after Opening frames → output ≡ written frames
    → EndsBy state more stop e piece → Answered (frames ++ more) stop (Err e) (output ++ piece)
answered_after frames more state stop (desk.Frame f) output piece at is h = (
  inl h.0,
  λ refused. h.1 (subst IsRefused (sym (after-append frames more state at)) refused),
  ap (λ l. output ++ l) h.2 ∙ written-append frames more state output piece at is,
)
answered_after frames more state stop desk.Unexpected output piece at is h = (
  inl (subst IsRefused (after-append frames more state at) h.0),
  ap (λ l. output ++ l) h.1 ∙ written-append frames more state output piece at is,
)
answered_after frames more state stop desk.Read output piece at is h = absurd h
answered_after frames more state stop desk.Write output piece at is h = front_after frames more state output piece at is h
answered_after frames more state stop desk.TooManyReads output piece at is h = absurd h
answered_after frames more state stop desk.Memory output piece at is h = front_after frames more state output piece at is h

needs_no_end : (stream : List ℕ) (before more : List Frame) (state : DeskState) (stop : Stop) (e : DeskFault) (output : List ℕ) (reader : Option (List ℕ)) → state ≡ desk_after Opening before
    → Reads stream more stop → EndsBy state more stop e output → NeedsEnd (before ++ more) (Err e) reader
needs_no_end stream before more state stop (desk.Frame f) output reader at reads h =
    λ cut. absurd (no_cut reads.after f (subst (StopsAt reads.after) h.0 reads.stops) cut)
needs_no_end stream before more state stop desk.Unexpected output reader at reads h = λ is_open. absurd (is_open (subst IsRefused (after-append before more state at) h.0))
needs_no_end stream before more state stop desk.Read output reader at reads h = tt
needs_no_end stream before more state stop desk.Write output reader at reads h = tt
needs_no_end stream before more state stop desk.TooManyReads output reader at reads h = tt
needs_no_end stream before more state stop desk.Memory output reader at reads h = tt

-- A run ends if a piece is not decoded or not answered.
pub Runs-broken : (a b b' c d d' : Option (List ℕ)) (rest piece output : List ℕ) (old : DeskState) (e : DeskFault) → Serves a b c d rest old → Consumes b b' piece → Appends d d' output
    → Breaks old rest piece e output → Runs a b' c d' (Err e)
Runs-broken a b b' c d d' rest piece output old e h consumed appended p = record {
  input = h.input ++ piece;
  output = h.output ++ output;
  consumed = Consumes-trans a b b' h.input piece h.consumed consumed;
  appended = Appends-trans c d d' h.output output h.appended appended;
  answers = record {
    part = h.input ++ p.part;
    frames = h.frames ++ p.frames;
    stop = p.stop;
    is_part = part_after h.input p.part piece e p.is_part;
    reads = Reads-join h.input p.part rest h.frames p.frames p.stop h.reads p.reads;
    answered = answered_after h.frames p.frames old p.stop e h.output output h.desk_is h.output_is p.ends;
  };
  at_end = needs_no_end (rest ++ p.part) h.frames p.frames old p.stop e output b' h.desk_is p.reads p.ends;
}

-- A run ends if the reader fails.
pub Runs-read : (a b b' c d : Option (List ℕ)) (rest : List ℕ) (state : DeskState) → Serves a b c d rest state → Keeps b b' → Runs a b' c d (Err desk.Read)
Runs-read a b b' c d rest state h kept = record {
  input = h.input;
  output = h.output;
  consumed = Consumes-kept a b b' h.input h.consumed kept;
  appended = h.appended;
  answers = record {
    part = h.input;
    frames = h.frames;
    stop = Rest rest;
    is_part = refl;
    reads = h.reads;
    answered = (rest, refl, λ refused. h.is_open (subst IsRefused (sym h.desk_is) refused), h.output_is);
  };
  at_end = tt;
}

-- A run ends at the read limit.
pub Runs-limit : (a b c d : Option (List ℕ)) (rest : List ℕ) (state : DeskState) → Serves a b c d rest state → Runs a b c d (Err desk.TooManyReads)
Runs-limit a b c d rest state h = record {
  input = h.input;
  output = h.output;
  consumed = h.consumed;
  appended = h.appended;
  answers = record {
    part = h.input;
    frames = h.frames;
    stop = Rest rest;
    is_part = refl;
    reads = h.reads;
    answered = (rest, refl, λ refused. h.is_open (subst IsRefused (sym h.desk_is) refused), h.output_is);
  };
  at_end = tt;
}

-- At end of input, the decoded part is the whole input.
part_at_end : (input : List ℕ) (r : Result (Unit {0}) DeskFault) (state : DeskState) (rest : List ℕ) → Closes state rest r → IsReadPart input input r
part_at_end input (Ok done) state rest h = refl
part_at_end input (Err (desk.Frame f)) state rest h = refl
part_at_end input (Err desk.Unexpected) state rest h = refl
part_at_end input (Err desk.Read) state rest h = refl
part_at_end input (Err desk.Write) state rest h = refl
part_at_end input (Err desk.TooManyReads) state rest h = refl
part_at_end input (Err desk.Memory) state rest h = absurd h

answered_at_end : (frames : List Frame) (state : DeskState) (rest : List ℕ) (r : Result (Unit {0}) DeskFault) (output : List ℕ) → state ≡ desk_after Opening frames → (IsRefused state → ⊥)
    → output ≡ written frames → Closes state rest r → Answered frames (Rest rest) r output
answered_at_end frames state rest (Ok done) output at is_open is h = (ap (λ l. Rest l) h.1, subst IsServing at h.0, is)
answered_at_end frames state rest (Err (desk.Frame f)) output at is_open is h = (inr (rest, refl, h.0, h.1), λ refused. is_open (subst IsRefused (sym at) refused), is)
answered_at_end frames state rest (Err desk.Unexpected) output at is_open is h = (inr (frames_before_opening frames (sym h.0 ∙ at), ap (λ l. Rest l) h.1), is)
answered_at_end frames state rest (Err desk.Read) output at is_open is h = absurd h
answered_at_end frames state rest (Err desk.Write) output at is_open is h = absurd h
answered_at_end frames state rest (Err desk.TooManyReads) output at is_open is h = absurd h
answered_at_end frames state rest (Err desk.Memory) output at is_open is h = absurd h

end_is_needed : (frames : List Frame) (r : Result (Unit {0}) DeskFault) (reader : Option (List ℕ)) → IsAtEnd reader → NeedsEnd frames r reader
end_is_needed frames (Ok done) reader at_end = at_end
end_is_needed frames (Err (desk.Frame f)) reader at_end = λ cut. at_end
end_is_needed frames (Err desk.Unexpected) reader at_end = λ is_open. at_end
end_is_needed frames (Err desk.Read) reader at_end = tt
end_is_needed frames (Err desk.Write) reader at_end = tt
end_is_needed frames (Err desk.TooManyReads) reader at_end = tt
end_is_needed frames (Err desk.Memory) reader at_end = tt

pub Runs-end : (a b b' c d : Option (List ℕ)) (rest none : List ℕ) (state : DeskState) (r : Result (Unit {0}) DeskFault) → Serves a b c d rest state → Consumes b b' none → none ≡ []
    → IsAtEnd b' → Closes state rest r → Runs a b' c d r
Runs-end a b b' c d rest none state r h consumed empty at_end closes = record {
  input = h.input;
  output = h.output;
  consumed = subst (Consumes a b') (ap (λ l. h.input ++ l) empty ∙ append-nil h.input) (Consumes-trans a b b' h.input none h.consumed consumed);
  appended = h.appended;
  answers = record {
    part = h.input;
    frames = h.frames;
    stop = Rest rest;
    is_part = part_at_end h.input r state rest closes;
    reads = h.reads;
    answered = answered_at_end h.frames state rest r h.output h.desk_is h.is_open h.output_is closes;
  };
  at_end = end_is_needed h.frames r b' at_end;
}

-- The same lemmas in the form that the loop needs

pub Serves-started : (reader writer : Option (List ℕ)) (feed : Feeding) (state : DeskState) → feed ≡ at_start → state ≡ Opening → Serves reader reader writer writer feed.rest state
Serves-started reader writer feed state e is =
    subst (Serves reader reader writer writer feed.rest) (sym is) (subst (λ (f : Feeding). Serves reader reader writer writer f.rest Opening) (sym e) (Serves-start reader writer))

pub Runs-unread : (a b b' c d : Option (List ℕ)) (rest : List ℕ) (state : DeskState) (e : ReadFault) → Serves a b c d rest state → (e ≡ read.Failed → Keeps b b') → (e ≡ read.TooManyReads → b' ≡ b)
    → Runs a b' c d (Err (of_read desk.Read desk.TooManyReads e))
Runs-unread a b b' c d rest state read.Failed h failed limit = Runs-read a b b' c d rest state h (failed refl)
Runs-unread a b b' c d rest state read.TooManyReads h failed limit = subst (λ x. Runs a x c d (Err desk.TooManyReads)) (sym (limit refl)) (Runs-limit a b c d rest state h)

-- Reader and writer failures

abbrev pub IsReadFault : Result (Unit {0}) DeskFault → Type 0
IsReadFault r = r ≡ Err desk.Read

pub unread_is_read : (e : ReadFault) (old new : Bool) → old ≡ false → (e ≡ read.Failed → new ≡ true) → (e ≡ read.TooManyReads → new ≡ old) → IsReadFault (Err (of_read desk.Read desk.TooManyReads e)) ↔ (new ≡ true)
unread_is_read read.Failed old new sound failed limit = (λ h. failed refl, λ h. refl)
unread_is_read read.TooManyReads old new sound failed limit = (λ h. cc, λ h. absurd (let e : true ≡ false = sym h ∙ limit refl ∙ sound in cc))

pub unread_is_no_write : (e : ReadFault) (b : Bool) → b ≡ false → IsWriteFault (Err (of_read desk.Read desk.TooManyReads e)) ↔ (b ≡ true)
unread_is_no_write read.Failed b sound = (λ h. cc, λ h. cc)
unread_is_no_write read.TooManyReads b sound = (λ h. cc, λ h. cc)

pub end_is_no_read : (state : DeskState) (rest : List ℕ) (r : Result (Unit {0}) DeskFault) (b : Bool) → Closes state rest r → b ≡ false → IsReadFault r ↔ (b ≡ true)
end_is_no_read state rest (Ok done) b h sound = (λ h. cc, λ h. cc)
end_is_no_read state rest (Err (desk.Frame f)) b h sound = (λ h. cc, λ h. cc)
end_is_no_read state rest (Err desk.Unexpected) b h sound = (λ h. cc, λ h. cc)
end_is_no_read state rest (Err desk.Read) b h sound = absurd h
end_is_no_read state rest (Err desk.Write) b h sound = absurd h
end_is_no_read state rest (Err desk.TooManyReads) b h sound = absurd h
end_is_no_read state rest (Err desk.Memory) b h sound = absurd h

pub end_is_no_write : (state : DeskState) (rest : List ℕ) (r : Result (Unit {0}) DeskFault) (b : Bool) → Closes state rest r → b ≡ false → IsWriteFault r ↔ (b ≡ true)
end_is_no_write state rest (Ok done) b h sound = (λ h. cc, λ h. cc)
end_is_no_write state rest (Err (desk.Frame f)) b h sound = (λ h. cc, λ h. cc)
end_is_no_write state rest (Err desk.Unexpected) b h sound = (λ h. cc, λ h. cc)
end_is_no_write state rest (Err desk.Read) b h sound = absurd h
end_is_no_write state rest (Err desk.Write) b h sound = absurd h
end_is_no_write state rest (Err desk.TooManyReads) b h sound = absurd h
end_is_no_write state rest (Err desk.Memory) b h sound = absurd h

pub break_is_no_read : (old : DeskState) (rest piece : List ℕ) (e : DeskFault) (output : List ℕ) (b : Bool) → Breaks old rest piece e output → b ≡ false → IsReadFault (Err e) ↔ (b ≡ true)
break_is_no_read old rest piece (desk.Frame f) output b h sound = (λ h. cc, λ h. cc)
break_is_no_read old rest piece desk.Unexpected output b h sound = (λ h. cc, λ h. cc)
break_is_no_read old rest piece desk.Read output b h sound = absurd h.ends
break_is_no_read old rest piece desk.Write output b h sound = (λ h. cc, λ h. cc)
break_is_no_read old rest piece desk.TooManyReads output b h sound = (λ h. cc, λ h. cc)
break_is_no_read old rest piece desk.Memory output b h sound = (λ h. cc, λ h. cc)
