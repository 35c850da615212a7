-- Forms of the fields of each kind of frame.
use Rattle.std.proofs.Common.{◌≡◌, ℕ, ◌+◌, ◌<◌, ◌≤◌, Bool, true, false, not, cond, ltb, eqb, List, [], ◌∷◌, ◌++◌, length, Option, Some, refl, sym, ap, subst, ◌∙◌, append_assoc, arith, inl, inr}
use Rattle.std.specs.Prelude.{⊤, ◌⊎◌}
use Rattle.std.specs.List.{flat_map, AllByRecursion}
use Rattle.std.proofs.lemmas.Bool.{ltb-true, ltb-false, lt-ltb, le-ltb, eqb-true, not-false, not_from_true}
use Rattle.wl_draft.specs.declared.mode.Mode.{Mode}
use Rattle.wl_draft.specs.declared.row.Entry.{Entry}
use Rattle.wl_grammar.specs.declared.frame.Operation.{Operation}
use Rattle.wl_grammar.specs.declared.frame.Operation.TheVariants as op
use Rattle.wl_grammar.specs.declared.frame.Outcome.TheVariants as outcome
use Rattle.wl_grammar.specs.declared.frame.Command.{Command}
use Rattle.wl_grammar.specs.declared.frame.Report.{Report}
use Rattle.wl_grammar.specs.declared.frame.ReportPart.{ReportPart}
use Rattle.wl_grammar.specs.declared.frame.Post.{Post}
use Rattle.wl_grammar.specs.declared.frame.Hello.{Hello}
use Rattle.wl_grammar.specs.declared.frame.Answer.{Answer}
use Rattle.wl_grammar.specs.declared.frame.SnapshotEntry.{SnapshotEntry}
use Rattle.wl_grammar.specs.declared.frame.Snapshot.{Snapshot}
use Rattle.wl_grammar.specs.declared.frame.Heard.{Heard}
use Rattle.wl_grammar.specs.declared.frame.Welcome.{Welcome}
use Rattle.wl_grammar.specs.declared.frame.PairWelcome.{PairWelcome}
use Rattle.wl_grammar.specs.declared.frame.Start.{Start}
use Rattle.wl_grammar.specs.declared.frame.Dead.{Dead}
use Rattle.wl_grammar.specs.Grammar.{u16, u32, IsU16, IsU32, IsGeneration, IsTab, spelled_mode, spelled_flag, spelled_held, short_text, long_text, IsChannel, IsLockName, IsData, IsOrigin, operation, IsOperation, entry, IsEntry, RiseFrom, snapshot_entry, IsSnapshotEntry, place, IsPlace, TabsRiseFrom, spelled_outcome, IsCommand, IsReport, IsReportPart, IsPost, IsHello, IsAnswer, IsSnapshot, IsHeard, IsWelcome, IsPairWelcome, IsStart, IsDead}
use Rattle.wl_frames.specs.Reading.{byte_at}
use Rattle.wl_frames.specs.Bodies.{request_at, operation_fields_at, operation_at, command_at, entry_at, numbers_rise, rising_entries_at, report_at, pair_at, part_at, few_parts_at, report_part_at, post_at, heard_at, hello_at, outcomes, outcome_at, answer_at, snapshot_entry_at, snapshot_at, welcome_at, pair_welcome_at, place_at, tabs_rise, rising_places_at, start_at, dead_at}
use Rattle.wl_frames.proofs.Forms.{IsBytes, Any, Takes, IsForm, bind_some, some_is, then_form, last_form, same_form, tested_form, within, wrapped_again}
use Rattle.wl_frames.proofs.Fields.{byte_form, u16_form, u32_form, generation_form, tab_form, coded_form, mode_form, flag_form, held_form, channel_form, lock_name_form, data_form, origin_form, list_form}

-- Commands

request_form : IsForm (λ (r : Mode × Bool × List ℕ). spelled_mode r.0 ++ (spelled_flag r.1 ++ short_text r.2)) (λ r. ⊤ × (⊤ × (⊤ × IsLockName r.2))) Any request_at
unfolding request_at
request_form =
    then_form _ (λ r. r.0) mode_form (λ m. then_form _ (λ r. r.1) flag_form (λ f. last_form (λ r. r.2) (λ n. (m, f, n)) lock_name_form (λ r k. rw (← k.0, ← k.1.0) refl) (λ n. ((refl, (refl, tt)), refl))))

-- A choice takes its first value or its second one.
chosen : {A : Type 0} (b : Bool) (x y z : A) → cond b x y ≡ z → ((b ≡ true) × (x ≡ z)) ⊎ ((b ≡ false) × (y ≡ z))
chosen true x y z e = inl (refl, e)
chosen false x y z e = inr (refl, e)

abbrev OperationTaken : ℕ → List ℕ → Operation → List ℕ → Type 0
OperationTaken code bytes o rest = Takes (λ o. operation o) (λ o. IsOperation o) Any (code ∷ bytes) o rest

-- The code of an operation comes before its fields.
coded : {X : Type 0} {s : X → List ℕ} {F : X → Type 0} {r : List ℕ → Option (X × List ℕ)} (make : X → Operation) (code : ℕ) (b : ℕ) → eqb b code ≡ true → IsForm s F Any r
    → ((x : X) → operation (make x) ≡ code ∷ s x) → ((x : X) → F x → IsOperation (make x))
    → (bytes : List ℕ) (o : Operation) (rest : List ℕ) → IsBytes bytes → within make (r bytes) ≡ Some (o, rest) → OperationTaken b bytes o rest
coded {X} {s} {F} {r} make code b is form spelled into bytes o rest fits e =
    let a = bind_some (r bytes) (λ x. Some (make x.0, x.1)) (o, rest) e in
    let one = form.takes bytes a.0.0 a.0.1 fits a.1 in
    let x = a.0.0 in
    let code_is : b ≡ code = eqb-true b code is in
    subst (λ (z : Operation × List ℕ). OperationTaken b bytes z.0 z.1) (some_is (make x, a.0.1) (o, rest) a.2)
    (record {
      parts = ap (λ (n : ℕ). n ∷ bytes) code_is ∙ ap (λ (w : List ℕ). code ∷ w) one.parts ∙ ap (λ (w : List ℕ). w ++ a.0.1) (sym (spelled x));
      fits = into x one.fits;
      ends = tt;
      rest_fits = one.rest_fits;
    })

fields_taken : (code : ℕ) (bytes : List ℕ) (o : Operation) (rest : List ℕ) → IsBytes bytes → operation_fields_at code bytes ≡ Some (o, rest) → OperationTaken code bytes o rest
fields_taken code bytes o rest fits e =
    elim (chosen (eqb code 1) _ _ _ e) [
      | inl h ↦
          coded (λ r. op.Request r.0 r.1 r.2) 1 code h.0 request_form (λ r. ap (λ (w : List ℕ). 1 ∷ w) (append_assoc (spelled_mode r.0) (spelled_flag r.1) (short_text r.2))) (λ r f. f.1.1.1) bytes o rest fits h.1
      | inr h ↦
          elim (chosen (eqb code 2) _ _ _ h.1) [
            | inl h ↦ coded (λ n. op.Release n) 2 code h.0 u32_form (λ n. refl) (λ n f. f) bytes o rest fits h.1
            | inr h ↦
                elim (chosen (eqb code 3) _ _ _ h.1) [
                  | inl h ↦ coded (λ n. op.Abort n) 3 code h.0 u32_form (λ n. refl) (λ n f. f) bytes o rest fits h.1
                  | inr h ↦
                      elim (chosen (eqb code 4) _ _ _ h.1) [
                        | inl h ↦
                            subst (λ (z : Operation × List ℕ). OperationTaken code bytes z.0 z.1) (some_is (op.Query, bytes) (o, rest) h.1)
                            (record { parts = ap (λ (n : ℕ). n ∷ bytes) (eqb-true code 4 h.0); fits = tt; ends = tt; rest_fits = fits })
                        | inr h ↦ absurd cc
                      ]
                ]
          ]
    ]

operation_again : (o : Operation) (rest : List ℕ) → IsOperation o → operation_at (operation o ++ rest) ≡ Some (o, rest)
unfolding operation_at
operation_again (op.Request m f n) rest fits =
    wrapped_again (λ r. op.Request r.0 r.1 r.2) request_form ((spelled_mode m ++ spelled_flag f) ++ short_text n) (m, f, n) rest (append_assoc (spelled_mode m) (spelled_flag f) (short_text n)) (tt, (tt, (tt, fits))) tt
operation_again (op.Release n) rest fits = wrapped_again (λ n. op.Release n) u32_form (u32 n) n rest refl fits tt
operation_again (op.Abort n) rest fits = wrapped_again (λ n. op.Abort n) u32_form (u32 n) n rest refl fits tt
operation_again op.Query rest fits = refl

operation_form : IsForm operation IsOperation Any operation_at
unfolding operation_at
operation_form = record {
  takes = λ bytes o rest fits e.
      let a = bind_some (byte_at bytes) (λ code. operation_fields_at code.0 code.1) (o, rest) e in
      let one = byte_form.takes bytes a.0.0 a.0.1 fits a.1 in
      let two = fields_taken a.0.0 a.0.1 o rest one.rest_fits a.2 in
      record {
        parts = one.parts ∙ two.parts;
        fits = two.fits;
        ends = tt;
        rest_fits = two.rest_fits;
      };
  again = λ o rest fits ends. operation_again o rest fits;
}

pub command_form : IsForm (λ c. u32 c.generation ++ u32 c.number ++ operation c.operation) IsCommand Any command_at
unfolding command_at
command_form =
    let parts : IsForm (λ (c : Command). u32 c.generation ++ (u32 c.number ++ operation c.operation)) (λ c. ⊤ × (IsGeneration c.generation × (IsU32 c.number × IsOperation c.operation))) Any command_at =
    then_form _ (λ c. c.generation) generation_form (λ g. then_form _ (λ c. c.number) u32_form (λ n. last_form (λ c. c.operation) (λ o. record { generation = g; number = n; operation = o }) operation_form (λ c k. rw (← k.0, ← k.1.0) refl) (λ o. ((refl, (refl, tt)), refl)))) in
    same_form parts
    (λ c. refl)
    (λ c h. record { generation = h.1.0; number = h.1.1.0; operation = h.1.1.1 })
    (λ c h. (tt, (h.generation, (h.number, h.operation))))

-- Reports

entry_form : IsForm entry IsEntry Any entry_at
unfolding entry_at
entry_form =
    let parts : IsForm (λ (e : Entry). u32 e.number ++ (spelled_held e.held ++ (spelled_mode e.mode ++ short_text e.name))) (λ e. ⊤ × (IsU32 e.number × (⊤ × (⊤ × IsLockName e.name)))) Any entry_at =
    then_form _ (λ e. e.number) u32_form (λ k. then_form _ (λ e. e.held) held_form (λ h. then_form _ (λ e. e.mode) mode_form (λ m. last_form (λ e. e.name) (λ n. record { number = k; held = h; mode = m; name = n }) lock_name_form (λ e k. rw (← k.0, ← k.1.0, ← k.1.1.0) refl) (λ n. ((refl, (refl, (refl, tt))), refl))))) in
    same_form parts
    (λ e. ap (λ (w : List ℕ). u32 e.number ++ w) (append_assoc (spelled_held e.held) (spelled_mode e.mode) (short_text e.name)))
    (λ e h. (h.1.0, h.1.1.1.1))
    (λ e h. (tt, (h.0, (tt, (tt, h.1)))))

RiseFrom-from_test : (least : ℕ) (es : List Entry) → numbers_rise least es ≡ true → RiseFrom least es
RiseFrom-from_test least [] e = tt
RiseFrom-from_test least (x ∷ xs) e =
    elim (chosen (ltb x.number least) _ _ _ e) [
      | inl h ↦ absurd cc
      | inr h ↦ (ltb-false _ _ h.0, RiseFrom-from_test (x.number + 1) xs h.1)
    ]

test_from_RiseFrom : (least : ℕ) (es : List Entry) → RiseFrom least es → numbers_rise least es ≡ true
test_from_RiseFrom least [] h = refl
test_from_RiseFrom least (x ∷ xs) h =
    ap (λ (b : Bool). cond b false (numbers_rise (x.number + 1) xs)) (le-ltb _ _ h.0) ∙ test_from_RiseFrom (x.number + 1) xs h.1

rising_entries_form : IsForm (λ es. u16 (length es) ++ flat_map entry es) (λ es. RiseFrom 0 es × ((length es ≤ 64) × AllByRecursion IsEntry es)) Any rising_entries_at
unfolding rising_entries_at
rising_entries_form =
    tested_form (RiseFrom 0) (λ es. not (numbers_rise 0 es)) (λ es e. RiseFrom-from_test 0 es (not-false (numbers_rise 0 es) e)) (λ es h. not_from_true (numbers_rise 0 es) (test_from_RiseFrom 0 es h)) (list_form 64 (omega arith) entry_form)

pub report_form : IsForm (λ r. u32 r.generation ++ u32 r.base ++ u16 (length r.entries) ++ flat_map entry r.entries) IsReport Any report_at
unfolding report_at
report_form =
    let parts : IsForm (λ (r : Report). u32 r.generation ++ (u32 r.base ++ (u16 (length r.entries) ++ flat_map entry r.entries))) (λ r. ⊤ × (IsGeneration r.generation × (IsU32 r.base × (RiseFrom 0 r.entries × ((length r.entries ≤ 64) × AllByRecursion IsEntry r.entries))))) Any report_at =
    then_form _ (λ r. r.generation) generation_form (λ g. then_form _ (λ r. r.base) u32_form (λ b. last_form (λ r. r.entries) (λ es. record { generation = g; base = b; entries = es }) rising_entries_form (λ r k. rw (← k.0, ← k.1.0) refl) (λ es. ((refl, (refl, tt)), refl)))) in
    same_form parts
    (λ r. refl)
    (λ r h. record { generation = h.1.0; base = h.1.1.0; count = h.1.1.1.1.0; entries = h.1.1.1.1.1; rise = h.1.1.1.0 })
    (λ r h. (tt, (h.generation, (h.base, (h.rise, (h.count, h.entries))))))

-- Parts, and parts of reports

pair_form : IsForm (λ (p : ℕ × ℕ). u16 p.0 ++ u16 p.1) (λ p. ⊤ × (IsU16 p.0 × IsU16 p.1)) Any pair_at
pair_form = then_form _ (λ p. p.0) u16_form (λ a. last_form (λ p. p.1) (λ b. (a, b)) u16_form (λ p k. rw (← k.0) refl) (λ b. ((refl, tt), refl)))

part_form : IsForm (λ (p : ℕ × ℕ). u16 p.0 ++ u16 p.1) (λ p. (p.0 < p.1) × (⊤ × (IsU16 p.0 × IsU16 p.1))) Any part_at
unfolding part_at
part_form =
    tested_form (λ p. p.0 < p.1) (λ p. not (ltb p.0 p.1)) (λ p e. ltb-true p.0 p.1 (not-false (ltb p.0 p.1) e)) (λ p h. not_from_true (ltb p.0 p.1) (lt-ltb p.0 p.1 h)) pair_form

few_parts_form : IsForm (λ (p : ℕ × ℕ). u16 p.0 ++ u16 p.1) (λ p. (p.1 ≤ 16) × ((p.0 < p.1) × (⊤ × (IsU16 p.0 × IsU16 p.1)))) Any few_parts_at
unfolding few_parts_at
few_parts_form = tested_form (λ p. p.1 ≤ 16) (λ p. ltb 16 p.1) (λ p e. ltb-false _ _ e) (λ p h. le-ltb _ _ h) part_form

pub report_part_form : IsForm (λ r. u32 r.generation ++ u32 r.base ++ u16 r.part ++ u16 r.parts ++ u16 (length r.entries) ++ flat_map entry r.entries) IsReportPart Any report_part_at
unfolding report_part_at
report_part_form =
    let parts : IsForm (λ (r : ReportPart). u32 r.generation ++ (u32 r.base ++ ((u16 r.part ++ u16 r.parts) ++ (u16 (length r.entries) ++ flat_map entry r.entries)))) (λ r. ⊤ × (IsGeneration r.generation × (IsU32 r.base × (((r.parts ≤ 16) × ((r.part < r.parts) × (⊤ × (IsU16 r.part × IsU16 r.parts)))) × (RiseFrom 0 r.entries × ((length r.entries ≤ 64) × AllByRecursion IsEntry r.entries)))))) Any report_part_at =
    then_form _ (λ r. r.generation) generation_form (λ g. then_form _ (λ r. r.base) u32_form (λ b. then_form _ (λ r. (r.part, r.parts)) few_parts_form (λ p. last_form (λ r. r.entries) (λ es. record { generation = g; base = b; part = p.0; parts = p.1; entries = es }) rising_entries_form (λ r k. rw (← k.0, ← k.1.0, ← k.1.1.0) refl) (λ es. ((refl, (refl, (refl, tt))), refl))))) in
    same_form parts
    (λ r. refl)
    (λ r h. record { generation = h.1.0; base = h.1.1.0; part = h.1.1.1.0.1.0; parts = h.1.1.1.0.0; count = h.1.1.1.1.1.0; entries = h.1.1.1.1.1.1; rise = h.1.1.1.1.0 })
    (λ r h. (tt, (h.generation, (h.base, ((h.parts, (h.part, (tt, (omega (arith, h.part, h.parts), omega (arith, h.parts))))), (h.rise, (h.count, h.entries)))))))

-- Posts

pub post_form : IsForm (λ p. u32 p.number ++ short_text p.channel ++ long_text p.bytes) IsPost Any post_at
unfolding post_at
post_form =
    let parts : IsForm (λ (p : Post). u32 p.number ++ (short_text p.channel ++ long_text p.bytes)) (λ p. ⊤ × (IsU32 p.number × (IsChannel p.channel × IsData p.bytes))) Any post_at =
    then_form _ (λ p. p.number) u32_form (λ n. then_form _ (λ p. p.channel) channel_form (λ c. last_form (λ p. p.bytes) (λ d. record { number = n; channel = c; bytes = d }) data_form (λ p k. rw (← k.0, ← k.1.0) refl) (λ d. ((refl, (refl, tt)), refl)))) in
    same_form parts
    (λ p. refl)
    (λ p h. record { number = h.1.0; channel = h.1.1.0; bytes = h.1.1.1 })
    (λ p h. (tt, (h.number, (h.channel, h.bytes))))

pub heard_form : IsForm (λ h. u16 h.source ++ u32 h.number ++ short_text h.channel ++ long_text h.bytes) IsHeard Any heard_at
unfolding heard_at
heard_form =
    let parts : IsForm (λ (h : Heard). u16 h.source ++ (u32 h.number ++ (short_text h.channel ++ long_text h.bytes))) (λ h. ⊤ × (IsTab h.source × (IsU32 h.number × (IsChannel h.channel × IsData h.bytes)))) Any heard_at =
    then_form _ (λ h. h.source) tab_form (λ s. then_form _ (λ h. h.number) u32_form (λ n. then_form _ (λ h. h.channel) channel_form (λ c. last_form (λ h. h.bytes) (λ d. record { source = s; number = n; channel = c; bytes = d }) data_form (λ h k. rw (← k.0, ← k.1.0, ← k.1.1.0) refl) (λ d. ((refl, (refl, (refl, tt))), refl))))) in
    same_form parts
    (λ h. refl)
    (λ x h. record { source = h.1.0; number = h.1.1.0; channel = h.1.1.1.0; bytes = h.1.1.1.1 })
    (λ x h. (tt, (h.source, (h.number, (h.channel, h.bytes)))))

-- Frames from the broker to a tab

pub hello_form : IsForm (λ h. u32 h.generation) IsHello Any hello_at
unfolding hello_at
hello_form =
    let parts : IsForm (λ (h : Hello). u32 h.generation) (λ h. ⊤ × IsGeneration h.generation) Any hello_at =
    last_form (λ h. h.generation) (λ g. record { generation = g }) generation_form (λ h k. refl) (λ g. (tt, refl)) in
    same_form parts (λ h. refl) (λ x h. h.1) (λ x h. (tt, h))

outcome_form : IsForm spelled_outcome (λ o. ⊤) Any outcome_at
unfolding outcome_at
outcome_form =
    coded_form spelled_outcome outcomes (refl, (refl, (refl, (refl, tt))))
    (elim [ outcome.Waiting ↦ (1, refl, refl) | outcome.Granted ↦ (2, refl, refl) | outcome.Gone ↦ (3, refl, refl) | outcome.Taken ↦ (4, refl, refl) ])

pub answer_form : IsForm (λ a. u32 a.generation ++ u32 a.upto ++ u32 a.number ++ spelled_outcome a.outcome) IsAnswer Any answer_at
unfolding answer_at
answer_form =
    let parts : IsForm (λ (a : Answer). u32 a.generation ++ (u32 a.upto ++ (u32 a.number ++ spelled_outcome a.outcome))) (λ a. ⊤ × (IsGeneration a.generation × (IsU32 a.upto × (IsU32 a.number × ⊤)))) Any answer_at =
    then_form _ (λ a. a.generation) generation_form (λ g. then_form _ (λ a. a.upto) u32_form (λ u. then_form _ (λ a. a.number) u32_form (λ n. last_form (λ a. a.outcome) (λ o. record { generation = g; upto = u; number = n; outcome = o }) outcome_form (λ a k. rw (← k.0, ← k.1.0, ← k.1.1.0) refl) (λ o. ((refl, (refl, (refl, tt))), refl))))) in
    same_form parts
    (λ a. refl)
    (λ a h. record { generation = h.1.0; upto = h.1.1.0; number = h.1.1.1.0 })
    (λ a h. (tt, (h.generation, (h.upto, (h.number, tt)))))

snapshot_entry_form : IsForm snapshot_entry IsSnapshotEntry Any snapshot_entry_at
unfolding snapshot_entry_at
snapshot_entry_form =
    let parts : IsForm (λ (e : SnapshotEntry). spelled_held e.held ++ (u16 e.tab ++ (spelled_mode e.mode ++ short_text e.name))) (λ e. ⊤ × (⊤ × (IsTab e.tab × (⊤ × IsLockName e.name)))) Any snapshot_entry_at =
    then_form _ (λ e. e.held) held_form (λ h. then_form _ (λ e. e.tab) tab_form (λ t. then_form _ (λ e. e.mode) mode_form (λ m. last_form (λ e. e.name) (λ n. record { held = h; tab = t; mode = m; name = n }) lock_name_form (λ e k. rw (← k.0, ← k.1.0, ← k.1.1.0) refl) (λ n. ((refl, (refl, (refl, tt))), refl))))) in
    same_form parts
    (λ e. append_assoc (spelled_held e.held ++ u16 e.tab) (spelled_mode e.mode) (short_text e.name) ∙ append_assoc (spelled_held e.held) (u16 e.tab) (spelled_mode e.mode ++ short_text e.name))
    (λ e h. (h.1.1.0, h.1.1.1.1))
    (λ e h. (tt, (tt, (h.0, (tt, h.1)))))

pub snapshot_form : IsForm (λ s. u32 s.generation ++ u32 s.number ++ u16 s.part ++ u16 s.parts ++ u16 (length s.entries) ++ flat_map snapshot_entry s.entries) IsSnapshot Any snapshot_at
unfolding snapshot_at
snapshot_form =
    let parts : IsForm (λ (s : Snapshot). u32 s.generation ++ (u32 s.number ++ ((u16 s.part ++ u16 s.parts) ++ (u16 (length s.entries) ++ flat_map snapshot_entry s.entries)))) (λ s. ⊤ × (IsGeneration s.generation × (IsU32 s.number × (((s.part < s.parts) × (⊤ × (IsU16 s.part × IsU16 s.parts))) × ((length s.entries ≤ 64) × AllByRecursion IsSnapshotEntry s.entries))))) Any snapshot_at =
    then_form _ (λ s. s.generation) generation_form (λ g. then_form _ (λ s. s.number) u32_form (λ n. then_form _ (λ s. (s.part, s.parts)) part_form (λ p. last_form (λ s. s.entries) (λ es. record { generation = g; number = n; part = p.0; parts = p.1; entries = es }) (list_form 64 (omega arith) snapshot_entry_form) (λ s k. rw (← k.0, ← k.1.0, ← k.1.1.0) refl) (λ es. ((refl, (refl, (refl, tt))), refl))))) in
    same_form parts
    (λ s. refl)
    (λ s h. record { generation = h.1.0; number = h.1.1.0; part = h.1.1.1.0.0; parts = h.1.1.1.0.1.1.1; count = h.1.1.1.1.0; entries = h.1.1.1.1.1 })
    (λ s h. (tt, (h.generation, (h.number, ((h.part, (tt, (omega (arith, h.part, h.parts), h.parts))), (h.count, h.entries))))))

-- Frames from the kernel

pub welcome_form : IsForm (λ w. u16 w.tab ++ long_text w.origin) IsWelcome Any welcome_at
unfolding welcome_at
welcome_form =
    let parts : IsForm (λ (w : Welcome). u16 w.tab ++ long_text w.origin) (λ w. ⊤ × (IsTab w.tab × IsOrigin w.origin)) Any welcome_at =
    then_form _ (λ w. w.tab) tab_form (λ t. last_form (λ w. w.origin) (λ o. record { tab = t; origin = o }) origin_form (λ w k. rw (← k.0) refl) (λ o. ((refl, tt), refl))) in
    same_form parts (λ w. refl) (λ w h. record { tab = h.1.0; origin = h.1.1 }) (λ w h. (tt, (h.tab, h.origin)))

pub pair_welcome_form : IsForm (λ w. u16 w.tab ++ long_text w.top ++ long_text w.own) IsPairWelcome Any pair_welcome_at
unfolding pair_welcome_at
pair_welcome_form =
    let parts : IsForm (λ (w : PairWelcome). u16 w.tab ++ (long_text w.top ++ long_text w.own)) (λ w. ⊤ × (IsTab w.tab × (IsOrigin w.top × IsOrigin w.own))) Any pair_welcome_at =
    then_form _ (λ w. w.tab) tab_form (λ t. then_form _ (λ w. w.top) origin_form (λ a. last_form (λ w. w.own) (λ b. record { tab = t; top = a; own = b }) origin_form (λ w k. rw (← k.0, ← k.1.0) refl) (λ b. ((refl, (refl, tt)), refl)))) in
    same_form parts
    (λ w. refl)
    (λ w h. record { tab = h.1.0; top = h.1.1.0; own = h.1.1.1 })
    (λ w h. (tt, (h.tab, (h.top, h.own))))

place_form : IsForm place IsPlace Any place_at
unfolding place_at
place_form =
    let parts : IsForm (λ (p : ℕ × ℕ). u16 p.0 ++ u16 p.1) (λ p. ⊤ × (IsTab p.0 × IsTab p.1)) Any place_at =
    then_form _ (λ p. p.0) tab_form (λ t. last_form (λ p. p.1) (λ q. (t, q)) tab_form (λ p k. rw (← k.0) refl) (λ q. ((refl, tt), refl))) in
    same_form parts (λ p. refl) (λ p h. h.1) (λ p h. (tt, h))

TabsRiseFrom-from_test : (least : ℕ) (ps : List (ℕ × ℕ)) → tabs_rise least ps ≡ true → TabsRiseFrom least ps
TabsRiseFrom-from_test least [] e = tt
TabsRiseFrom-from_test least (p ∷ ps) e =
    elim (chosen (ltb p.0 least) _ _ _ e) [
      | inl h ↦ absurd cc
      | inr h ↦ (ltb-false _ _ h.0, TabsRiseFrom-from_test (p.0 + 1) ps h.1)
    ]

test_from_TabsRiseFrom : (least : ℕ) (ps : List (ℕ × ℕ)) → TabsRiseFrom least ps → tabs_rise least ps ≡ true
test_from_TabsRiseFrom least [] h = refl
test_from_TabsRiseFrom least (p ∷ ps) h =
    ap (λ (b : Bool). cond b false (tabs_rise (p.0 + 1) ps)) (le-ltb _ _ h.0) ∙ test_from_TabsRiseFrom (p.0 + 1) ps h.1

rising_places_form : IsForm (λ ps. u16 (length ps) ++ flat_map place ps) (λ ps. TabsRiseFrom 1 ps × ((length ps ≤ 1024) × AllByRecursion IsPlace ps)) Any rising_places_at
unfolding rising_places_at
rising_places_form =
    tested_form (TabsRiseFrom 1) (λ ps. not (tabs_rise 1 ps)) (λ ps e. TabsRiseFrom-from_test 1 ps (not-false (tabs_rise 1 ps) e)) (λ ps h. not_from_true (tabs_rise 1 ps) (test_from_TabsRiseFrom 1 ps h)) (list_form 1024 (omega arith) place_form)

pub start_form : IsForm (λ s. u32 s.generation ++ u16 (length s.list) ++ flat_map place s.list) IsStart Any start_at
unfolding start_at
start_form =
    let parts : IsForm (λ (s : Start). u32 s.generation ++ (u16 (length s.list) ++ flat_map place s.list)) (λ s. ⊤ × (IsGeneration s.generation × (TabsRiseFrom 1 s.list × ((length s.list ≤ 1024) × AllByRecursion IsPlace s.list)))) Any start_at =
    then_form _ (λ s. s.generation) generation_form (λ g. last_form (λ s. s.list) (λ ps. record { generation = g; list = ps }) rising_places_form (λ s k. rw (← k.0) refl) (λ ps. ((refl, tt), refl))) in
    same_form parts
    (λ s. refl)
    (λ s h. record { generation = h.1.0; count = h.1.1.1.0; places = h.1.1.1.1; rise = h.1.1.0 })
    (λ s h. (tt, (h.generation, (h.rise, (h.count, h.places)))))

pub dead_form : IsForm (λ d. u16 d.tab) IsDead Any dead_at
unfolding dead_at
dead_form =
    let parts : IsForm (λ (d : Dead). u16 d.tab) (λ d. ⊤ × IsTab d.tab) Any dead_at =
    last_form (λ d. d.tab) (λ t. record { tab = t }) tab_form (λ d k. refl) (λ t. (tt, refl)) in
    same_form parts (λ d. refl) (λ x h. h.1) (λ x h. (tt, h))
