-- What is counted of flow records.
use Rattle.std.specs.Prelude.{ℕ, ◌+◌, cond, List, count_by, sum_by}
use Rattle.suri_base.specs.declared.reason.Reason.{Reason}
use Rattle.suri_base.specs.declared.reason.Reason.TheVariants.{Timeout, TcpReuse, Forced, Shutdown}
use Rattle.flow_object.specs.declared.outcome.FlowLine.{FlowLine}
use Rattle.run_stats.specs.Counting.{ended_by}
use Rattle.run_counts.specs.declared.records.RecordCounts.{RecordCounts}

-- the packets and bytes of both directions, and how many flows ended for each reason and in an emergency
unfoldable pub records_of : List FlowLine → RecordCounts
records_of lines = record {
  packets = sum_by (λ l. l.sums.ts.pkts + l.sums.tc.pkts) lines;
  bytes = sum_by (λ l. l.sums.ts.bytes + l.sums.tc.bytes) lines;
  timeout = ended_by Timeout lines;
  tcp_reuse = ended_by TcpReuse lines;
  forced = ended_by Forced lines;
  shutdown = ended_by Shutdown lines;
  emergency = count_by (λ l. l.emergency) lines;
}

-- how many flows ended, for whichever reason
abbrev pub all_ended : RecordCounts → ℕ
all_ended c = c.timeout + c.tcp_reuse + c.forced + c.shutdown

-- one flow more that ended for a reason
abbrev pub with_reason : Reason → RecordCounts → RecordCounts
with_reason Timeout c = record c { timeout = c.timeout + 1 }
with_reason TcpReuse c = record c { tcp_reuse = c.tcp_reuse + 1 }
with_reason Forced c = record c { forced = c.forced + 1 }
with_reason Shutdown c = record c { shutdown = c.shutdown + 1 }

-- one record more
abbrev pub with_record : FlowLine → RecordCounts → RecordCounts
with_record l c = with_reason l.reason (record c {
  packets = c.packets + (l.sums.ts.pkts + l.sums.tc.pkts);
  bytes = c.bytes + (l.sums.ts.bytes + l.sums.tc.bytes);
  emergency = c.emergency + cond l.emergency 1 0;
})
