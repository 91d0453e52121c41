-- What is proved of G.709 frames and rows, in one record. Assumes nothing.
use mathlib.Core.Path.{refl, sym}
use mathlib.Core.Bool.{true, false}
use Prim.Native.Nat.{ℕ, ◌<◌}
use lib.Dec.{lit<}
use Rattle.fields.proofs.Instances.{field_a, field_c, pinned_c}
use Rattle.words.proofs.Codes.ReedSolomon.{reed_solomon}
use Rattle.g709.specs.Laws.{RowRefusals, OlderFrames}
use Rattle.g709.proofs.ByteCode.{code_c, generator_c}
use Rattle.g709.proofs.Rows.{row_laws}
use Rattle.g709.proofs.RowSteps.{encoded_long, encoded_space, encoded_all, checked_long, checked_written, checked_other, extracted_long, extracted_space, extracted_all, extracted_other}
use Rattle.g709.proofs.WordByWord.{refused_long, refused_space}

row_refusals : (n long : ℕ) → 0 < long → RowRefusals n long
row_refusals n long h =
    record {
      encode_length = λ p o ne. sym (encoded_long n long p o h ne);
      encode_space = λ p o e ne. sym (encoded_space n long p o e ne);
      encoded = λ p o e f. sym (encoded_all n long p o _ e f refl);
      check_length = λ b ne. sym (checked_long n long b ne);
      checked = λ b e t. sym (checked_written n long b true e (sym t) refl);
      check_other = λ b e t. sym (checked_other n long b false e (sym t) refl);
      extract_length = λ b o ne. sym (extracted_long n long b o h ne);
      extract_space = λ b o e ne. sym (extracted_space n long b o e ne);
      extracted = λ b o e f t. sym (extracted_all n long b o true _ e f (sym t) refl refl);
      extract_other = λ b o e f t. sym (extracted_other n long b o false e f (sym t) refl);
      correct_length = λ b o ne. sym (refused_long n long b o h ne);
      correct_space = λ b o e ne. sym (refused_space n long b o e ne);
    }

pub older_frames : OlderFrames
older_frames =
    record {
      field_c = field_c;
      pinned = pinned_c;
      generator = generator_c;
      outer_code = reed_solomon 10 1033 0 16 field_a;
      byte_code = code_c;
      byte_distance = code_c.distance;
      row = row_laws 1;
      frame = row_laws 4;
      row_refusals = row_refusals 1 8 (lit< tt);
      payload_refusals = row_refusals 4 1 (lit< tt);
      frame_refusals = row_refusals 4 2 (lit< tt);
    }
