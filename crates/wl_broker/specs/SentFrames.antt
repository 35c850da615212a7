-- Well-formedness of the frames that the broker sends, if the frames it received are well-formed.
use Rattle.std.specs.Prelude.{◌≡◌, ℕ, List, Some}
use Rattle.std.specs.List.{AllByRecursion}
use Rattle.wl_draft.specs.declared.row.Row.{Row}
use Rattle.wl_draft.specs.Locks.{Locks}
use Rattle.wl_grammar.specs.declared.frame.Stamped.{Stamped}
use Rattle.wl_grammar.specs.declared.frame.Addressed.{Addressed}
use Rattle.wl_grammar.specs.Grammar.{IsU32, IsTab, IsGeneration, IsLockName, IsEntry, IsPlace, IsStamped, IsAddressed}
use Rattle.wl_broker_reports.specs.ReportParts.{Partial}
use Rattle.wl_broker.specs.Broker.{BrokerState, started, hellos, Does, taking, death_step, next_in}

-- The lock has an encoding.
pub record IsRow (r : Row) : Type 0 where
  pub client : IsTab r.client
  pub number : IsU32 r.number
  pub name : IsLockName r.name

abbrev pub AreRows : Locks → Type 0
AreRows m = AllByRecursion IsRow m.held × AllByRecursion IsRow m.waiting

-- The parts kept of a report have an encoding.
abbrev pub IsPartial : Partial → Type 0
IsPartial k = IsU32 k.base × AllByRecursion (λ row. AllByRecursion IsEntry row.1) k.came

-- The whole state of the broker has an encoding.
pub record IsSpellable (b : BrokerState) : Type 0 where
  pub generation : IsGeneration b.generation
  pub listed : AllByRecursion IsPlace b.listed
  pub seats : AllByRecursion (λ x. IsTab x.0 × IsU32 (next_in (Some x.1))) b.seats
  pub managers : AllByRecursion (λ x. AreRows x.1) b.managers
  pub partial : AllByRecursion (λ x. IsPartial x.1) b.partial

abbrev pub SpellsStart : ℕ → List (ℕ × ℕ) → Type 0
SpellsStart g listed =
    IsGeneration g → AllByRecursion IsPlace listed → IsSpellable (started g listed) × AllByRecursion IsAddressed (hellos g listed)

abbrev pub SpellsTaking : BrokerState → Stamped → Type 0
SpellsTaking b s =
    (after : BrokerState) (outs : List Addressed) → IsSpellable b → IsStamped s → taking b s ≡ Does after outs
    → IsSpellable after × AllByRecursion IsAddressed outs

abbrev pub SpellsBurial : BrokerState → ℕ → Type 0
SpellsBurial b t = IsSpellable b → IsTab t → IsSpellable (death_step b t).0 × AllByRecursion IsAddressed (death_step b t).1
