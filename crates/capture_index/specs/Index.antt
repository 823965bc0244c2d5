-- A capture, from the bytes of its file and the frames in it.
use Rattle.std.specs.Prelude.{ℕ, List, []}
use Rattle.pcap_read.specs.File.{CaptureFile}
use Rattle.suri_base.specs.Capture.{Captured, clocks_after}
use Rattle.capture_index.specs.Decode.{all_seen}
use Rattle.capture_index.specs.Links.{linked}

-- the capture of a file with these bytes, which holds this: what becomes of each frame at its clock, with the next one of its key
abbrev pub captured_of : List ℕ → CaptureFile → Captured
captured_of bytes file =
    let clocks : List ℕ = clocks_after [] file.frames in
    record {
      bytes = bytes;
      frames = file.frames;
      clocks = clocks;
      seen = linked (all_seen file.link bytes file.frames clocks);
      cut_bytes = file.cut_bytes;
    }
