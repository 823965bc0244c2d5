-- The date and time of an instant after 1970, as text.
use Rattle.std.specs.Prelude.{◌≡◌, ℕ, zero, suc, ◌+◌, ◌-◌, ◌/◌, ◌%◌, nat_lt, if◌then◌else◌, pos, List, ◌++◌, codes}
use Rattle.jiff.specs.Words.{days_in_year, days_in_month}
use Rattle.jiff_core.specs.declared.civil.date.Date.{Date}
use Rattle.eve_record.specs.declared.time.Civil.{Civil}
use Rattle.eve_record.specs.Address.{padded_decimal}

-- the year, and the days before the day in it, of the day so many days after 1 January of a year
unfoldable pub year_from : ℕ → ℕ → ℕ → ℕ × ℕ
year_from zero year days = (year, days)
year_from (suc turns) year days =
    if nat_lt days (days_in_year (pos year)) then (year, days) else year_from turns (year + 1) (days - days_in_year (pos year))

-- the month, and the days before the day in it, of the day so many days after the first of a month
unfoldable pub month_from : ℕ → ℕ → ℕ → ℕ → ℕ × ℕ
month_from zero year month days = (month, days)
month_from (suc turns) year month days =
    if nat_lt days (days_in_month (pos year) month) then (month, days) else month_from turns year (month + 1) (days - days_in_month (pos year) month)

-- the date so many days after 1 January 1970
unfoldable pub civil_of : ℕ → Civil
civil_of days =
    let year = year_from days 1970 days in
    let month = month_from 12 year.0 1 year.1 in
    record { year = year.0; month = month.0; day = month.1 + 1 }

-- jiff's date is this date
pub record IsCivil (d : Date) (c : Civil) : Type 0 where
  pub year : d.year ≡ pos c.year
  pub month : d.month ≡ c.month
  pub day : d.day ≡ c.day

abbrev pub date_text : Civil → List ℕ
date_text d = padded_decimal 4 d.year ++ (codes "-" ++ (padded_decimal 2 d.month ++ (codes "-" ++ padded_decimal 2 d.day)))

-- the time of day after so many seconds of it
abbrev pub clock_text : ℕ → List ℕ
clock_text s = padded_decimal 2 (s / 3600) ++ (codes ":" ++ (padded_decimal 2 (s / 60 % 60) ++ (codes ":" ++ padded_decimal 2 (s % 60))))

-- a date, the time after so many seconds of it, and so many microseconds
abbrev pub stamp_text : Civil → ℕ → ℕ → List ℕ
stamp_text d seconds micros = date_text d ++ (codes "T" ++ (clock_text seconds ++ (codes "." ++ (padded_decimal 6 micros ++ codes "+0000"))))

-- the instant so many nanoseconds after 1970, in whole microseconds
abbrev pub time_text : ℕ → List ℕ
time_text nanos =
    let seconds = nanos / 1000000000 in
    stamp_text (civil_of (seconds / 86400)) (seconds % 86400) (nanos % 1000000000 / 1000)
