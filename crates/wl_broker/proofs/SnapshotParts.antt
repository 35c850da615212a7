-- Division of a snapshot into parts.
use Rattle.std.proofs.Common.{◌≡◌, ℕ, ◌+◌, ◌*◌, ◌≤◌, List, [], ◌∷◌, ◌++◌, length, map, take, drop, refl, sym, ap, ◌∙◌, append-nil, arith}
use Rattle.std.proofs.lemmas.List.{take_at, drop_at, take_all, drop_all}
use Rattle.std.proofs.lemmas.List.FromFn.{map-range_with_len_more}
use Rattle.std.specs.List.{range_with_len}
use Rattle.wl_limits.specs.declared.frames.TheConstants.{ENTRY_LIMIT}
use Rattle.wl_grammar.specs.declared.frame.SnapshotEntry.{SnapshotEntry}
use Rattle.wl_grammar.specs.declared.frame.Addressed.{Addressed}
use Rattle.wl_grammar.specs.declared.frame.Downward.TheVariants as down
use Rattle.wl_grammar.specs.PartCount.{part_count}
use Rattle.wl_broker.specs.Broker.{part_of}

-- A full part takes the first entries, and leaves the rest.
pub whole_part : {X : Type 0} (n : ℕ) (part rest all : List X) → part ++ rest ≡ all → length part ≡ n → (part ≡ take n all) × (rest ≡ drop n all)
whole_part n part rest all e h =
    (sym (ap (take n) (sym e) ∙ take_at part rest n h), sym (ap (drop n) (sym e) ∙ drop_at part rest n h))

-- A list of length 0 is empty.
nil_from_length : {X : Type 0} (xs : List X) → length xs ≡ 0 → xs ≡ []
nil_from_length [] e = refl
nil_from_length (x ∷ xs) e = absurd (omega arith)

pub last_part : {X : Type 0} (n : ℕ) (part rest all : List X) → part ++ rest ≡ all → length rest ≡ 0 → length part ≤ n → (part ≡ take n all) × (rest ≡ drop n all)
last_part n part rest all e none h =
    let nil = nil_from_length rest none in
    let same : all ≡ part = sym e ∙ ap (λ ys. part ++ ys) nil ∙ append-nil part in
    (sym (ap (take n) same ∙ take_all n part h), nil ∙ sym (ap (drop n) same ∙ drop_all n part h))

-- One more part appends its frame.
pub part_more : (g t n : ℕ) (entries : List SnapshotEntry) (k parts : ℕ) (outs : List Addressed) (part rest : List SnapshotEntry) → outs ≡ map (part_of g t n entries) (range_with_len 0 k) → part ≡ take ENTRY_LIMIT rest → rest ≡ drop (ENTRY_LIMIT * k) entries → parts ≡ part_count entries → outs ++ record { tab = t; inner = down.Snapshot (record { generation = g; number = n; part = k; parts = parts; entries = part }) } ∷ [] ≡ map (part_of g t n entries) (range_with_len 0 (k + 1))
part_more g t n entries k parts outs part rest made taken left count =
    rw (made, taken, left, count) (sym (map-range_with_len_more (part_of g t n entries) 0 k k (omega arith)))
