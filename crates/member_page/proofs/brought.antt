pub mod VLines
