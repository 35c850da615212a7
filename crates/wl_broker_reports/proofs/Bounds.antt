-- Comparison of a list of numbers with the least number above all of them.
use Rattle.std.proofs.Common.{◌≡◌, ℕ, ◌+◌, Bool, ◌&&◌, nat_lt, nat_le, max, List, [], ◌∷◌, refl, ap₂, arith}
use Rattle.std.specs.List.{list_all}
use Rattle.std.proofs.lemmas.Bool.Decides.{nat_tests}
use Rattle.wl_draft.specs.declared.row.Entry.{Entry}
use Rattle.wl_broker_reports.specs.ReportParts.{all_above}
use Rattle.wl_broker_reports.specs.PartialReports.{end_of}

end_of_step : (e : Entry) (n end : ℕ) (rest : Bool) → nat_le end n ≡ rest → nat_le (max (e.number + 1) end) n ≡ (nat_lt e.number n && rest)
end_of_step e n end rest below = grind (arith, nat_tests)

end_of_all : (es : List Entry) (n : ℕ) → nat_le (end_of es) n ≡ list_all (λ e. nat_lt e.number n) es
end_of_all [] n = grind (arith, nat_tests)
end_of_all (e ∷ es) n = end_of_step e n (end_of es) _ (end_of_all es n)

pub above_end : (below above : List Entry) → list_all (λ e. nat_le (end_of below) e.number) above ≡ all_above below above
above_end below [] = refl
above_end below (e ∷ es) = ap₂ (λ x y. x && y) (end_of_all below e.number) (above_end below es)
