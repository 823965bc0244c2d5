-- The date of a number of days, by walking the years and months.
use Rattle.std.proofs.Common.{◌≡◌, ℕ, zero, suc, ◌+◌, ◌-◌, ◌≤◌, ◌<◌, refl, sym, ap, ◌∙◌, arith, subst, inl, inr}
use Rattle.std.specs.Prelude.{pos, ℤ}
use Rattle.std.proofs.lemmas.Int.{ints, by_lt_z}
use Rattle.std.proofs.lemmas.Bool.{cases_lt, lt-ltb, le-ltb}
use Rattle.jiff.specs.Words.{epoch_day, IsYmd}
use Rattle.jiff_core.specs.declared.civil.date.Date.{Date}
use Rattle.jiff_core.specs.Calendar.{days_from_civil, day_count, days_in_year, days_in_month, IsCivilDate}
use Rattle.jiff_core.proofs.CalendarLemmas.{day_count-epoch, day_count-lt_year, day_count-later_year, day_count-day_of_year, day_count-next_year, day_count-lt_month, day_count-day, day_count-next_month, days_in_year_bounds, days_in_month_bounds, days_from_civil-day_count}
use Rattle.jiff_core.proofs.SignedLemmas.{signed_arith}
use Rattle.eve_record.specs.Time.{year_from, month_from, civil_of, IsCivil}

epoch : days_from_civil (pos 1970) 1 1 ≡ pos 0
unfolding days_from_civil
epoch = rw day_count-epoch refl

-- 1 January 1970 is day 0
pub epoch_is_zero : (d : Date) → IsYmd (pos 1970) (pos 1) (pos 1) d → epoch_day d ≡ pos 0
epoch_is_zero d h =
    let month : d.month ≡ 1 = omega (arith, ints, h.1) in
    let day : d.day ≡ 1 = omega (arith, ints, h.2) in
    rw (h.0, month, day) epoch

-- a date is of the year among whose days it lies
at_year : (year days : ℕ) (y : ℤ) (m d : ℕ) → IsCivilDate y m d → day_count y m d ≡ day_count (pos year) 1 1 + days → days < days_in_year (pos year) → y ≡ pos year
at_year year days y m d h e small =
    by_lt_z y (pos year) (λ lt. absurd (omega (arith, day_count-lt_year y m d (pos year) 1 1 h (omega arith) lt)))
    (λ le. by_lt_z (pos year) y
    (λ lt. absurd (omega (arith, day_count-later_year (pos year) y (omega (arith, signed_arith)) lt, day_count-day_of_year y m d h.2.0)))
    (λ ge. omega (arith, signed_arith)))

pub record InYear (y : ℤ) (m d : ℕ) (p : ℕ × ℕ) : Type 0 where
  pub year : y ≡ pos p.0
  pub days : day_count y m d ≡ day_count y 1 1 + p.1

in_this_year : (year days : ℕ) (y : ℤ) (m d : ℕ) → IsCivilDate y m d → day_count y m d ≡ day_count (pos year) 1 1 + days → days < days_in_year (pos year) → InYear y m d (year, days)
in_this_year year days y m d h e small =
    let is : y ≡ pos year = at_year year days y m d h e small in
    record { year = is; days = e ∙ ap (λ (z : ℤ). day_count z 1 1 + days) (sym is) }

years : (turns year days : ℕ) (y : ℤ) (m d : ℕ) → IsCivilDate y m d → days ≤ turns → day_count y m d ≡ day_count (pos year) 1 1 + days → InYear y m d (year_from turns year days)
unfolding year_from
years zero year days y m d h turns e = in_this_year year days y m d h e (omega (arith, days_in_year_bounds (pos year)))
years (suc turns) year days y m d h few e =
    elim (cases_lt days (days_in_year (pos year))) [
      | inl lt ↦ rw (lt-ltb days (days_in_year (pos year)) lt) (in_this_year year days y m d h e lt)
      | inr ge ↦ rw (le-ltb days (days_in_year (pos year)) ge)
          (years turns (year + 1) (days - days_in_year (pos year)) y m d h (omega (arith, days_in_year_bounds (pos year)))
          (omega (arith, day_count-next_year (pos year) (pos (year + 1)) (omega (arith, signed_arith)) (omega (arith, signed_arith)))))
    ]

pub record InMonth (m d : ℕ) (p : ℕ × ℕ) : Type 0 where
  pub month : m ≡ p.0
  pub day : d ≡ p.1 + 1

in_this_month : (y : ℤ) (month days m d : ℕ) → IsCivilDate y m d → 1 ≤ month → month ≤ 12 → day_count y m d ≡ day_count y month 1 + days → days < days_in_month y month → InMonth m d (month, days)
in_this_month y month days m d h low high e small =
    let same : m ≡ month = elim (cases_lt m month) [
      | inl lt ↦ absurd (omega (arith, day_count-lt_month y m d month 1 h (omega arith) lt))
      | inr ge ↦ elim (cases_lt month m) [
        | inl lt ↦
            let bounds = days_in_month_bounds y month in
            let whole : IsCivilDate y month (days_in_month y month) = (h.0, (low, high), (omega arith, omega arith)) in
            absurd (omega (arith, day_count-lt_month y month (days_in_month y month) m d whole h.2.0 lt, day_count-day y month (days_in_month y month) 1 (omega arith) (omega arith)))
        | inr le ↦ omega arith
      ]
    ] in
    let day = day_count-day y month d 1 h.2.0 (omega arith) in
    let e' : day_count y month d ≡ day_count y month 1 + days = ap (λ n. day_count y n d) (sym same) ∙ e in
    record { month = same; day = omega arith }

months : (turns year month days m d : ℕ) → IsCivilDate (pos year) m d → 1 ≤ month → month + turns ≡ 13 → day_count (pos year) m d ≡ day_count (pos year) month 1 + days
    → InMonth m d (month_from turns year month days)
unfolding month_from
months zero year month days m d h low sum e =
    let past : m < month = omega (arith, h.1.1) in
    absurd (omega (arith, day_count-lt_month (pos year) m d month 1 h (omega arith) past))
months (suc turns) year month days m d h low sum e =
    elim (cases_lt days (days_in_month (pos year) month)) [
      | inl lt ↦ rw (lt-ltb days (days_in_month (pos year) month) lt) (in_this_month (pos year) month days m d h low (omega arith) e lt)
      | inr ge ↦ rw (le-ltb days (days_in_month (pos year) month) ge)
          (months turns year (month + 1) (days - days_in_month (pos year) month) m d h (omega arith) (omega arith)
          (omega (arith, day_count-next_month (pos year) month low)))
    ]

-- a date with this day number is the one that the walk finds
pub civil_is : (d : Date) (days : ℕ) → IsCivilDate d.year d.month d.day → epoch_day d ≡ pos days → IsCivil d (civil_of days)
unfolding civil_of
civil_is d days h e =
    let count : day_count d.year d.month d.day ≡ day_count (pos 1970) 1 1 + days =
    omega (arith, ints, signed_arith, days_from_civil-day_count d.year d.month d.day, day_count-epoch, e) in
    let y = years days 1970 days d.year d.month d.day h (omega arith) count in
    let h' : IsCivilDate (pos (year_from days 1970 days).0) d.month d.day = subst (λ (z : ℤ). IsCivilDate z d.month d.day) y.year h in
    let e' : day_count (pos (year_from days 1970 days).0) d.month d.day ≡ day_count (pos (year_from days 1970 days).0) 1 1 + (year_from days 1970 days).1 =
    subst (λ (z : ℤ). day_count z d.month d.day ≡ day_count z 1 1 + (year_from days 1970 days).1) y.year y.days in
    let m = months 12 (year_from days 1970 days).0 1 (year_from days 1970 days).1 d.month d.day h' (omega arith) refl e' in
    record { year = y.year; month = m.month; day = m.day }
